-- `numbers::saturating_mul_i64` meets its contract: the product of the magnitudes, with the sign of the factors.
use mathlib.Core.Path.{◌≡◌, sym, ap, ◌∙◌}
use mathlib.Core.Bool.{Bool}
use Prim.Native.Nat.{ℕ, ◌*◌, ◌<◌, ◌^◌, min}
use lib.IntN.{ℤ, pos, neg_ℤ, nat_abs, ◌*ℤ◌}
use lib.Signed.{mag, lt_z}
use mir.Syntax.{w64}
use mir.Val.{SFits}
use Rattle.numbers.specs.Saturation.{largest, sat_z}
use Rattle.numbers.proofs.Lin.{rd, back, got, abs_back, mul_tt, mul_tf, mul_ft, mul_ff}
use Rattle.numbers.proofs.Hold.{sat_pos_min, sat_neg_min}
use Rattle.numbers.proofs.saturating_mul_i64.Goals as goal

-- a test of a number that was read back is the test of the number
plain : {z : ℤ} {t : Bool} → SFits w64 z → lt_z (rd z) (pos 0) ≡ t → lt_z z (pos 0) ≡ t
plain f e = sym (ap (λ (z : ℤ). lt_z z (pos 0)) (back f)) ∙ e

-- what is returned: f is `pos`, or its negation
done : (f : ℕ → ℤ) {r a b : ℤ} {m n p : ℕ} → ((k : ℕ) → sat_z (f (min k (largest 64))) ≡ sat_z (f k)) → SFits w64 a → SFits w64 b
    → mag r < 2 ^ 63 → r ≡ sat_z (f p) → p ≡ min (m * n) (largest 64) → m ≡ nat_abs (rd a) → n ≡ nat_abs (rd b)
    → a *ℤ b ≡ f (nat_abs a * nat_abs b) → rd r ≡ sat_z (a *ℤ b)
done f {m} {n} stop fa fb ok e h p q s =
    got ok
    (e ∙ ap (λ (k : ℕ). sat_z (f k)) h ∙ stop (m * n) ∙ (λ i. sat_z (f ((p ∙ abs_back fa) i * (q ∙ abs_back fb) i))) ∙ ap sat_z (sym s))

pub returns-then-b-lt0 : goal.returns-then-b-lt0
returns-then-b-lt0 c =
    done pos sat_pos_min c.ranges.a c.ranges.b c.to_i64.type_inv c.to_i64.ensures c.saturating_mul-product.ensures
    c.unsigned_abs-first.ensures.value c.unsigned_abs-second.ensures.value
    (mul_tt c.args.a c.args.b (plain c.ranges.a c.if-a-lt0.true) (plain c.ranges.b c.if-b-lt0.true))

pub returns-else-b-lt0 : goal.returns-else-b-lt0
returns-else-b-lt0 c =
    done (λ (k : ℕ). neg_ℤ (pos k)) sat_neg_min c.ranges.a c.ranges.b c.negative_i64.type_inv c.negative_i64.ensures c.saturating_mul-product.ensures
    c.unsigned_abs-first.ensures.value c.unsigned_abs-second.ensures.value
    (mul_tf c.args.a c.args.b (plain c.ranges.a c.if-a-lt0.true) (plain c.ranges.b c.if-b-lt0.false))

pub returns-then-b-lt0-2 : goal.returns-then-b-lt0-2
returns-then-b-lt0-2 c =
    done (λ (k : ℕ). neg_ℤ (pos k)) sat_neg_min c.ranges.a c.ranges.b c.negative_i64-then-b-lt0-2.type_inv c.negative_i64-then-b-lt0-2.ensures c.saturating_mul-product.ensures
    c.unsigned_abs-first.ensures.value c.unsigned_abs-second.ensures.value
    (mul_ft c.args.a c.args.b (plain c.ranges.a c.if-a-lt0.false) (plain c.ranges.b c.if-b-lt0-2.true))

pub returns-else-b-lt0-2 : goal.returns-else-b-lt0-2
returns-else-b-lt0-2 c =
    done pos sat_pos_min c.ranges.a c.ranges.b c.to_i64-else-b-lt0-2.type_inv c.to_i64-else-b-lt0-2.ensures c.saturating_mul-product.ensures
    c.unsigned_abs-first.ensures.value c.unsigned_abs-second.ensures.value
    (mul_ff c.args.a c.args.b (plain c.ranges.a c.if-a-lt0.false) (plain c.ranges.b c.if-b-lt0-2.false))
