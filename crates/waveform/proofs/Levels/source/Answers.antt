-- `waveform::Levels::source` meets its contract. Assumes nothing.
use Prim.Native.Nat.{◌%◌}
use mathlib.Core.Path.{◌≡◌, sym, ◌∙◌}
use borrow.Author.Tests.{ne_eqb}
use lib.Bits.{and_mask}
use Rattle.numbers.proofs.Lin.{field_back}
use Rattle.waveform.specs.Voltages.{source_level}
use Rattle.waveform.proofs.Levels.source.Goals as goal

pub returns-in-1 : goal.returns-in-1
unfolding source_level
returns-in-1 c = let s = c.args in
    let e : s.code % 4 ≡ 1 = sym (and_mask s.code 2) ∙ c.in-1.is in
    field_back s.self.vsh1 c.struct_told-1.given.0.1 ∙ simp e

pub returns-in-2 : goal.returns-in-2
unfolding source_level
returns-in-2 c = let s = c.args in
    let e : s.code % 4 ≡ 2 = sym (and_mask s.code 2) ∙ c.in-2.is in
    field_back s.self.vsl c.struct_told-in-2-1.given.1.1.0.1 ∙ simp e

pub returns-in-3 : goal.returns-in-3
unfolding source_level
returns-in-3 c = let s = c.args in
    let e : s.code % 4 ≡ 3 = sym (and_mask s.code 2) ∙ c.in-3.is in
    field_back s.self.vsh2 c.struct_told-in-3-1.given.1.0.1 ∙ simp e

pub returns-in_default : goal.returns-in_default
unfolding source_level
returns-in_default c = let k = c.args.code in
    let m = and_mask k 2 in
    simp (ne_eqb (k % 4) 1 (λ e. c.in_default.in_default-own.rest.0.0.1 (m ∙ e)), ne_eqb (k % 4) 2 (λ e. c.in_default.in_default-own.rest.0.1 (m ∙ e)), ne_eqb (k % 4) 3 (λ e. c.in_default.in_default-own.rest.1 (m ∙ e)))
