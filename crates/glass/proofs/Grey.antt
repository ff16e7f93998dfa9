-- Laws of `level_z` and `gray_z`: their values at a state below, above and within the swing.
-- Assumes nothing.
use mathlib.Core.Path.{◌≡◌, refl, sym, ap, ◌∙◌}
use mathlib.Core.Bool.{true}
use Prim.Native.Nat.{ℕ, ◌+◌, ◌*◌, ◌/◌, ◌≤◌, ◌<◌}
use native.Mathlib.Omega.{arith}
use native.Mathlib.Nat.{div-eq_of_lt, le-div_iff_mul-le, zero-div}
use lib.IntN.{ℤ, pos, negsuc, nat_abs, ◌+ℤ◌, ◌*ℤ◌}
use lib.Signed.{le_z, quot_z, ◌≤ℤ◌}
use Rattle.glass.specs.Greys.{level_z, gray_z}
use Rattle.numbers.proofs.Lin.{up, down, whole, add_out, scale_up, scale_down, quot_up, quot_down, up_le, down_le}
use Rattle.numbers.proofs.Hold.{clamp_low', clamp_high', clamp_mid}
use Rattle.numbers.proofs.Quot.{gray_lt}

pub level_is : (g n : ℕ) → pos (n * g / 255) ≡ level_z g (pos n)
unfolding level_z
level_is g n = refl

-- what `gray_z` divides
abbrev top : ℤ → ℕ → ℤ
top x n = pos 510 *ℤ x +ℤ pos n

pub gray_low : (x s : ℤ) → pos 1 ≤ℤ s → le_z x (pos 0) ≡ true → 0 ≡ gray_z x s
unfolding gray_z
gray_low x (pos n) h e =
    let z = top x n in
    let u = up_le z n (omega (whole, add_out (pos 510 *ℤ x) (pos n), scale_up 510 x, scale_down 510 x)) in
    let v = quot_up z (2 * n) ∙ div-eq_of_lt {n = up z} {m = 2 * n} (omega whole) in
    sym (ap nat_abs (clamp_low' (quot_z z (pos (2 * n))) (pos 0) (pos 255) (omega whole) (omega arith)))
gray_low x (negsuc n) h e = absurd h.le

pub gray_high : (x s : ℤ) → pos 1 ≤ℤ s → le_z s x ≡ true → 255 ≡ gray_z x s
unfolding gray_z
gray_high x (pos n) h e =
    let z = top x n in
    let a = add_out (pos 510 *ℤ x) (pos n) in
    let b = scale_up 510 x in
    let d = scale_down 510 x in
    let u : down z ≡ 0 = omega (whole, down_le z 0 (omega whole)) in
    let v : 255 ≤ up z / (2 * n) = (le-div_iff_mul-le {k = 2 * n} {x = 255} {y = up z} (omega whole)).1 (omega whole) in
    let w = quot_down z (2 * n) ∙ ap (λ (k : ℕ). k / (2 * n)) u ∙ zero-div (2 * n) in
    sym (ap nat_abs (clamp_high' (quot_z z (pos (2 * n))) (pos 0) (pos 255) (omega (whole, quot_up z (2 * n))) (omega arith)))
gray_high x (negsuc n) h e = absurd h.le

pub gray_mid : (a n : ℕ) → a < n → (510 * a + n) / (2 * n) ≡ gray_z (pos a) (pos n)
unfolding gray_z
gray_mid a n h = sym (ap nat_abs (clamp_mid (pos ((510 * a + n) / (2 * n))) (pos 0) (pos 255) (omega arith) (omega (arith, gray_lt a n h))))
