-- The first picture (#113): from a swing of 510 on, the grey of the state of a grey is that grey. Assumes nothing.
use mathlib.Core.Path.{◌≡◌, refl, sym, ap, ◌∙◌}
use mathlib.Core.Bool.{Bool, true, false}
use Prim.Native.Nat.{ℕ, ◌+◌, ◌*◌, ◌/◌, ◌≤◌, ◌<◌, min}
use native.Mathlib.Omega.{arith}
use native.Mathlib.Nat.{add-mul, one-mul, mul_comm, mul_left_comm, mul-le-mul_left, div-eq_of_lt-le}
use lib.Dec.{ltb}
use lib.IntN.{ℤ, pos}
use borrow.Author.Tests.{ltb-true, ltb-false}
use Rattle.numbers.specs.Saturation.{sat_z, least, most}
use Rattle.numbers.proofs.Hold.{clamp_high, clamp_mid}
use Rattle.numbers.proofs.Lin.{is_le, le_in, whole}
use Rattle.glass.specs.Greys.{level_z, gray_z}
use Rattle.glass.proofs.Grey.{level_is, gray_high, gray_mid}
use Rattle.power_on_laws.specs.First.{fine_swing}

-- the swing that a panel has: the full swing, held to 2^63 − 1
pub swing_is : (n : ℕ) → sat_z (pos n) ≡ pos (min n 9223372036854775807)
swing_is n = by (ltb 9223372036854775807 n) refl
  where
    by : (b : Bool) → ltb 9223372036854775807 n ≡ b → sat_z (pos n) ≡ pos (min n 9223372036854775807)
    by true e =
        let h = ltb-true 9223372036854775807 n e in
        let m : min n 9223372036854775807 ≡ 9223372036854775807 = omega (arith, h) in
        clamp_high (pos n) least most (omega arith) (omega (arith, h)) ∙ ap pos (sym m)
    by false e =
        let h = ltb-false 9223372036854775807 n e in
        let m : min n 9223372036854775807 ≡ n = omega (arith, h) in
        clamp_mid (pos n) least most (omega arith) (omega (arith, h)) ∙ ap pos (sym m)

-- below white: the state a = n × g / 255 is less than n, and (510 × a + n) / (2 × n) is g
below_white : (g n : ℕ) → g < 255 → fine_swing ≤ n → gray_z (pos (n * g / 255)) (pos n) ≡ g
below_white g n h m =
    let a = n * g / 255 in
    let p : g * (2 * n) ≡ 2 * (n * g) = mul_left_comm g 2 n ∙ ap (λ (k : ℕ). 2 * k) (mul_comm g n) in
    let q : (g + 1) * (2 * n) ≡ g * (2 * n) + 2 * n = add-mul g 1 (2 * n) ∙ ap (λ (k : ℕ). g * (2 * n) + k) (one-mul (2 * n)) in
    let s : n * g ≤ n * 254 = mul-le-mul_left n (omega (arith, h)) in
    sym (gray_mid a n (omega (arith, s, m)))
    ∙ div-eq_of_lt-le {k = g} (2 * n) {m = 510 * a + n} (omega (arith, p, m)) (omega (arith, p, q, m))

-- white: its state is the swing
white : (n : ℕ) → 1 ≤ n → gray_z (pos (n * 255 / 255)) (pos n) ≡ 255
white n h =
    let e : n * 255 / 255 ≡ n = omega arith in
    ap (λ (k : ℕ). gray_z (pos k) (pos n)) e ∙ sym (gray_high (pos n) (pos n) (le_in (pos 1) (pos n) (omega (whole, h))) (is_le (pos n) (pos n) (omega whole)))

-- `gray` of `level`
pub gray_of_level : (g n : ℕ) → g ≤ 255 → fine_swing ≤ n → gray_z (level_z g (pos n)) (pos n) ≡ g
gray_of_level g n h m = ap (λ (z : ℤ). gray_z z (pos n)) (sym (level_is g n)) ∙ by (ltb g 255) refl
  where
    by : (b : Bool) → ltb g 255 ≡ b → gray_z (pos (n * g / 255)) (pos n) ≡ g
    by true e = below_white g n (ltb-true g 255 e) m
    by false e =
        let l = ltb-false g 255 e in
        let is : g ≡ 255 = omega (arith, l, h) in
        ap (λ (k : ℕ). gray_z (pos (n * k / 255)) (pos n)) is ∙ white n (omega (arith, m)) ∙ sym is
