-- Steps of grey: the nearest grey of a state, or the next, is 255 × state / S rounded up. Assumes nothing.
use mathlib.Core.Path.{◌≡◌, sym, ◌∙◌}
use Prim.Native.Nat.{ℕ, ◌+◌, ◌*◌, ◌/◌, ◌≤◌, ◌<◌}
use native.Mathlib.Omega.{arith}
use native.Mathlib.Decide.{dec_lt}
use native.Mathlib.Nat.{add-mul, mul_comm, mul_left_comm, div-eq_of_lt-le, le-div_iff_mul-le, div-lt_iff_lt-mul, mul-le-mul_right}
use lib.IntN.{pos}
use Rattle.numbers.proofs.Lin.{whole, le_in, is_le}
use Rattle.glass.specs.Greys.{gray_z}
use Rattle.glass.proofs.Grey.{gray_high, gray_mid}
use Rattle.voltage_shift.specs.Shift.{gray_steps}

-- the grey of every state from 0 to S
pub gray_is : (S x : ℕ) → 1 ≤ S → x ≤ S → gray_z (pos x) (pos S) ≡ (510 * x + S) / (2 * S)
gray_is S x some h = by (dec_lt x S)
  where
    by : Dec (x < S) → gray_z (pos x) (pos S) ≡ (510 * x + S) / (2 * S)
    by (yes k) = sym (gray_mid x S k)
    by (no k) =
        sym (gray_high (pos x) (pos S) (le_in (pos 1) (pos S) (omega whole)) (is_le (pos S) (pos x) (omega whole)))
        ∙ sym (div-eq_of_lt-le (2 * S) (omega arith) (omega arith))

module _ (S n g : ℕ) (some : 1 ≤ S) (in-swing : n ≤ S) (is : g ≡ gray_z (pos n) (pos S)) where
  -- g is the nearest: 2 × S × g is at most 510 × n + S, and less than 2 × S short of it
  record Nearest : Type 0 where
    low : 2 * (g * S) ≤ 510 * n + S
    high : 510 * n + S < 2 * (g * S) + 2 * S

  nearest : Nearest
  nearest =
      let e : g ≡ (510 * n + S) / (2 * S) = is ∙ gray_is S n some in-swing in
      let a : g * (2 * S) ≤ 510 * n + S = (le-div_iff_mul-le {k = 2 * S} {x = g} {y = 510 * n + S} (omega arith)).0 (omega arith) in
      let b : 510 * n + S < (g + 1) * (2 * S) = (div-lt_iff_lt-mul {k = 2 * S} {x = 510 * n + S} {y = g + 1} (omega arith)).0 (omega arith) in
      let m = mul_left_comm g 2 S in
      let o = add-mul g 1 (2 * S) in
      record { low = omega arith; high = omega arith }

  -- its level is not below n
  pub steps_here : n ≤ S * g / 255 → g ≡ gray_steps S n
  unfolding gray_steps
  steps_here h =
      let k = nearest in
      let l : n * 255 ≤ S * g = (le-div_iff_mul-le {k = 255} {x = n} {y = S * g} (omega arith)).0 h in
      let c = mul_comm S g in
      let o = add-mul g 1 S in
      sym (div-eq_of_lt-le S (omega (arith, k.low, k.high)) (omega (arith, k.low, k.high)))

  short : S * g / 255 < n → g * S < 255 * n
  short h =
      let l : S * g < n * 255 = (div-lt_iff_lt-mul {k = 255} {x = S * g} {y = n} (omega arith)).0 h in
      let c = mul_comm S g in
      omega arith

  -- its level is below n
  pub steps_next : S * g / 255 < n → g + 1 ≡ gray_steps S n
  unfolding gray_steps
  steps_next h =
      let k = nearest in
      let l = short h in
      let o = add-mul g 1 S in
      let p = add-mul (g + 1) 1 S in
      sym (div-eq_of_lt-le S (omega (arith, k.low, k.high)) (omega (arith, k.low, k.high)))

  -- and it is not the last
  pub steps_before : S * g / 255 < n → g < 255
  steps_before h = by (dec_lt g 255)
    where
      by : Dec (g < 255) → g < 255
      by (yes k) = k
      by (no k) = absurd (omega (arith, short h, mul-le-mul_right {m = 255} {n = g} S (omega arith)))
