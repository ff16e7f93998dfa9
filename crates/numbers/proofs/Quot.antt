-- Products of natural numbers against a bound, and quotients taken without the product that they are of.
-- Assumes nothing.
use mathlib.Core.Path.{◌≡◌, refl, sym, ap, ◌∙◌}
use Prim.Native.Nat.{ℕ, zero, suc, ◌+◌, ◌*◌, ◌-◌, ◌/◌, ◌%◌, ◌≤◌, ◌<◌}
use native.Mathlib.Omega.{arith}
use native.Mathlib.Nat.{div-add-mod, add-mul, mul-add, mul_assoc, mul_comm, mul_left_comm, one-mul, zero-mul, mul-le-mul, mul-le-mul_left, mod-lt, div-lt_iff_lt-mul, div-eq_of_lt-le, div-div-eq-div-mul, add-div_right}

-- s × g, with s split by k
pub split_mul : (s g k : ℕ) → s * g ≡ k * (s / k * g) + s % k * g
split_mul s g k =
    ap (λ (n : ℕ). n * g) (sym (div-add-mod s k)) ∙ add-mul (k * (s / k)) (s % k) g ∙ ap (λ (n : ℕ). n + s % k * g) (mul_assoc k (s / k) g)

pub level_split : (s g : ℕ) → s / 255 * g + s % 255 * g / 255 ≡ s * g / 255
level_split s g = omega (arith, split_mul s g 255)

pub level_le : (s g : ℕ) → g ≤ 255 → s * g / 255 ≤ s
level_le s g h = omega (arith, mul-le-mul_left s h)

pub rest_le : (s g : ℕ) → g ≤ 255 → s % 255 * g ≤ 64770
rest_le s g h = mul-le-mul {n₂ = 254} {m₂ = 255} (omega arith) h

one_more : (t s : ℕ) → (t + 1) * s ≡ t * s + s
one_more t s = add-mul t 1 s ∙ ap (λ (n : ℕ). t * s + n) (one-mul s)

-- 510 × x / s, from x / a where s is 510 × a + b
module _ (x s : ℕ) (below : x < s) (large : 1048576 ≤ s) where
  abbrev a : ℕ
  a = s / 510

  abbrev b : ℕ
  b = s % 510

  abbrev t : ℕ
  t = x / a

  abbrev r : ℕ
  r = x % a

  r_lt : r < a
  r_lt = mod-lt x {m = a} (omega arith)

  pub quot_lt : t < 511
  quot_lt = (div-lt_iff_lt-mul {k = a} {x = x} {y = 511} (omega arith)).1 (omega arith)

  pub cross_le : t * b ≤ 259590
  cross_le = mul-le-mul {n₂ = 510} {m₂ = 509} (let h = quot_lt in omega arith) (omega arith)

  pub rem_small : 510 * r < s
  rem_small = omega (arith, r_lt)

  whole : t * s ≡ 510 * (a * t) + t * b
  whole = ap (λ (n : ℕ). t * n) (sym (div-add-mod s 510)) ∙ mul-add t (510 * a) b ∙ ap (λ (n : ℕ). n + t * b) (mul_left_comm t 510 a ∙ ap (λ (n : ℕ). 510 * n) (mul_comm t a))

  pub steps_yes : t * b ≤ 510 * r → t ≡ 510 * x / s
  steps_yes h = sym (div-eq_of_lt-le s (omega (arith, whole, div-add-mod x a)) (omega (arith, one_more t s, whole, div-add-mod x a, r_lt, mul_comm 510 (a * (t + 1)))))

  pub steps_pos : 510 * r < t * b → 1 ≤ t
  steps_pos h = by t refl
    where
      by : (k : ℕ) → t ≡ k → 1 ≤ k
      by zero e = omega (arith, ap (λ (n : ℕ). n * b) e, zero-mul b)
      by (suc k) e = omega arith

  pub steps_no : 510 * r < t * b → t - 1 ≡ 510 * x / s
  steps_no h =
      let p = steps_pos h in
      let e : (t - 1) + 1 ≡ t = omega arith in
      let m = ap (λ (n : ℕ). n * s) e in
      let n = one_more (t - 1) s in
      sym (div-eq_of_lt-le s (omega (arith, whole, div-add-mod x a, cross_le)) (omega (arith, whole, div-add-mod x a)))

pub steps_lt : (x s : ℕ) → x < s → 510 * x / s < 510
steps_lt x s h = (div-lt_iff_lt-mul {k = s} {x = 510 * x} {y = 510} (omega arith)).1 (omega arith)

pub half : (x s : ℕ) → x < s → (510 * x / s + 1) / 2 ≡ (510 * x + s) / (2 * s)
half x s h =
    ap (λ (n : ℕ). n / 2) (sym (add-div_right (510 * x) {k = s} (omega arith)))
    ∙ div-div-eq-div-mul (510 * x + s) s 2
    ∙ ap (λ (n : ℕ). (510 * x + s) / n) (mul_comm s 2)

pub gray_lt : (x s : ℕ) → x < s → (510 * x + s) / (2 * s) < 256
gray_lt x s h = (div-lt_iff_lt-mul {k = 2 * s} {x = 510 * x + s} {y = 256} (omega arith)).1 (omega arith)
