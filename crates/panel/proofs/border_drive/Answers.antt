-- `panel::border_drive` meets its contract. Assumes nothing.
use Rattle.std.specs.Prelude.{Some}
use mathlib.Core.Path.{◌≡◌, ap, ◌∙◌}
use Prim.Native.Nat.{ℕ, ◌/◌}
use lib.Bits.{and_mask}
use borrow.Author.Tests.{eq-eqb, ne_eqb}
use Rattle.waveform.specs.declared.Drive.TheVariants.{Lut, Fixed}
use Rattle.panel.specs.Border.{border_drive}
use Rattle.panel.proofs.border_drive.Goals as goal

pub returns-in-0 : goal.returns-in-0
unfolding border_drive
returns-in-0 c = let b = c.args.border in
    let e : b / 64 ≡ 0 = c.in-0.is in
    ap (λ (n : ℕ). Some (Lut n)) (and_mask b 2) ∙ simp (eq-eqb _ _ e)

pub returns-in-1 : goal.returns-in-1
unfolding border_drive
returns-in-1 c = let b = c.args.border in
    let e : b / 64 ≡ 1 = c.in-1.is in
    ap (λ (n : ℕ). Some (Fixed n)) (and_mask (b / 16) 2) ∙ simp e

pub returns-in_default : goal.returns-in_default
unfolding border_drive
returns-in_default c = let b = c.args.border in
    simp (ne_eqb (b / 64) 0 c.in_default.in_default-own.rest.0.1, ne_eqb (b / 64) 1 c.in_default.in_default-own.rest.1)
