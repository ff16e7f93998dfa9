-- `sheet_text::places::whole_at` meets its contract.
use mathlib.Core.Path.{sym, ap, ◌∙◌}
use Prim.Native.Nat.{ℕ, zero, suc, ◌^◌, ◌<◌}
use native.Mathlib.Omega.{arith}
use lib.IntN.{pos, neg_ℤ}
use mir.Syntax.{w64}
use mir.Val.{SFits}
use Rattle.numbers.proofs.Cases.{took, passed}
use Rattle.numbers.proofs.Hold.{sat_fits}
use Rattle.numbers.proofs.Lin.{got}
use Rattle.sheet_text.specs.Reading.{whole_at}
use Rattle.sheet_text.proofs.places.whole_at.Goals as goal

-- numbers of seven digits fit, with either sign
pos_fits : (n : ℕ) → n < 2 ^ 32 → SFits w64 (pos n)
pos_fits n l = record { sfits = omega arith }

neg_fits : (n : ℕ) → n < 2 ^ 32 → SFits w64 (neg_ℤ (pos n))
neg_fits zero l = record { sfits = omega arith }
neg_fits (suc n) l = record { sfits = omega arith }

pub returns-then-minus_at : goal.returns-then-minus_at
unfolding whole_at
returns-then-minus_at c =
    let minus = c in
    let number = minus in
    let e = number.number_at-n.ensures in
    let n = number.number_at-n.result in
    took _ _ _ _ (sym minus.minus_at.ensures ∙ c.if-minus_at.true)
    (got c.negative_i64.type_inv (c.negative_i64.ensures ∙ sat_fits (neg_fits n e.small) ∙ ap (λ (k : ℕ). neg_ℤ (pos k)) e.number))

pub returns : goal.returns
unfolding whole_at
returns c =
    let minus = c in
    let number = minus in
    let e = number.number_at-n.ensures in
    let n = number.number_at-n.result in
    passed _ _ _ _ (sym minus.minus_at.ensures ∙ c.if-minus_at.false)
    (got c.to_i64.type_inv (c.to_i64.ensures ∙ sat_fits (pos_fits n e.small) ∙ ap pos e.number))
