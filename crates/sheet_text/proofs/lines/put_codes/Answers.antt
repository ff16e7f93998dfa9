-- `sheet_text::lines::put_codes` meets its contract: a digit for each phase.
use mathlib.Core.Path.{◌≡◌, ap, ◌∙◌}
use mathlib.Core.List.{List}
use Prim.Native.Nat.{ℕ, ◌+◌, ◌-◌, ◌*◌, ◌<◌}
use native.Mathlib.Omega.{arith}
use lib.ListN.{length, take, drop, get_or, length-drop}
use Rattle.std.proofs.Common.{length-take-le, get_or-take, get_or-drop}
use Rattle.waveform.specs.Phases.{joined}
use Rattle.column.specs.Columns.{natural, gathered}
use Rattle.listing.proofs.Joined.{joined_none, joined_more}
use Rattle.sheet_text.specs.Text.{digits_text, text_bytes}
use Rattle.sheet_text.proofs.lines.put_codes.Invariants.{text_in}
use Rattle.sheet_text.proofs.lines.put_codes.Goals as goal

pub loop-code-init : goal.loop-code-init
loop-code-init c = joined_none text_bytes c.args.text.now _

-- the codes of a LUT are four of the group's twenty
four : (codes : List ℕ) (lut : ℕ) → length codes ≡ 20 → lut < 5 → length (take (4 * lut + 4 - 4 * lut) (drop (4 * lut) codes)) ≡ 4
four codes lut l h = length-take-le (4 * lut + 4 - 4 * lut) (drop (4 * lut) codes) (omega (arith, length-drop (4 * lut) codes)) ∙ omega arith

code_is : (codes : List ℕ) (lut i : ℕ) → i < 4 → get_or (take (4 * lut + 4 - 4 * lut) (drop (4 * lut) codes)) i 0 ≡ get_or codes (4 * lut + i) 0
code_is codes lut i h = get_or-take (4 * lut + 4 - 4 * lut) (drop (4 * lut) codes) i 0 (omega arith) ∙ get_or-drop (4 * lut) codes i 0

pub loop-code-preserved : goal.loop-code-preserved
loop-code-preserved c =
    let s = c.args in
    let l = c.loop-code in
    let long = four s.group.codes s.lut (omega arith) c.requires in
    joined_more text_bytes s.text.now (text_in s.group s.lut) l.code-index l.invariant
    (c.put_number.ensures ∙ ap (λ (n : ℕ). gathered text_bytes l.text (natural 1 n)) (c.from.ensures ∙ code_is s.group.codes s.lut l.code-index (omega (arith, long))))

pub returns : goal.returns
unfolding digits_text
returns c =
    let s = c.args in
    let long = four s.group.codes s.lut (omega arith) c.requires in
    let e : c.loop-code.code-index ≡ 4 = omega (arith, long) in
    c.loop-code.invariant ∙ ap (λ (n : ℕ). gathered text_bytes s.text.now (joined n (text_in s.group s.lut))) e
