-- `voltage_shift::change` meets its contract.
use mathlib.Core.Path.{◌≡◌, sym, subst, ◌∙◌}
use lib.IntN.{ℤ, nat_abs, ◌-ℤ◌}
use lib.Signed.{mag}
use Prim.Native.Nat.{◌^◌, ◌<◌}
use Rattle.numbers.proofs.Lin.{Le, rd, whole, le_in, sub_out, abs_pos, abs_neg, field_back, got}
use Rattle.waveform.specs.Voltages.{Listable}
use borrow.Author.Rules.{rules}
use Rattle.voltage_shift.proofs.change.Goals as goal

read : (z : ℤ) → mag z < 2 ^ 63 → Listable z → Listable (rd z)
read z ok h = subst Listable (sym (field_back z ok)) h

turned : (a b : ℤ) → Le a b → nat_abs (b -ℤ a) ≡ nat_abs (a -ℤ b)
turned a b h =
    let o = sub_out a b in
    let u = sub_out b a in
    let m = abs_pos (b -ℤ a) (omega whole) in
    let n = abs_neg (a -ℤ b) (omega whole) in
    omega whole

pub rise-requires : goal.rise-requires
rise-requires c =
    let from = c.driving_level-from in
    let to = c.driving_level-to in
    let f = read from.result from.type_inv from.ensures.range in
    let t = read to.result to.type_inv to.ensures.range in record { listable = (f, t); order = le_in _ _ (omega whole) }

pub returns-then-from-to : goal.returns-then-from-to
returns-then-from-to c =
    let from = c.driving_level-from in
    let to = c.driving_level-to in
    c.rise.ensures ∙ turned (rd from.result) (rd to.result) (omega whole) ∙ (λ i. nat_abs (got from.type_inv from.ensures.is i -ℤ got to.type_inv to.ensures.is i))

pub rise-requires-2 : goal.rise-requires-2
rise-requires-2 c =
    let from = c.driving_level-from in
    let to = c.driving_level-to in
    let f = read from.result from.type_inv from.ensures.range in
    let t = read to.result to.type_inv to.ensures.range in record { listable = (search (rules, f, t), search (rules, f, t)); order = le_in _ _ (omega whole) }

pub returns : goal.returns
returns c =
    let from = c.driving_level-from in
    let to = c.driving_level-to in
    c.rise-2.ensures ∙ (λ i. nat_abs (got from.type_inv from.ensures.is i -ℤ got to.type_inv to.ensures.is i))
