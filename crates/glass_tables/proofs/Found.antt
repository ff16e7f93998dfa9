-- Greys read from tables: of the states of a step, those below `grey_end` have the grey that it begins with, and the rest the next.
-- Assumes nothing.
use mathlib.Core.Path.{◌≡◌, refl, sym, ap}
use Prim.Native.Nat.{ℕ, ◌+◌, ◌*◌, ◌/◌, ◌%◌, ◌^◌, ◌≤◌, ◌<◌}
use native.Mathlib.Omega.{arith}
use native.Mathlib.Nat.{div-eq_of_lt-le, div-lt_iff_lt-mul, div-mul-le_self, lt-div-mul-add, mod-lt, add-mul, mul_assoc, mul_comm, mul_left_comm, mul-le-mul}
use lib.Pow.{pow_pos, split}
use lib.IntN.{ℤ, pos, negsuc, nat_abs}
use Rattle.numbers.specs.Saturation.{least}
use Rattle.numbers.proofs.Lin.{up, down, Le, Lt}
use Rattle.numbers.proofs.Hold.{clamp_mid}
use Rattle.numbers.proofs.Quot.{split_mul}
use Rattle.glass.specs.Greys.{gray_z}
use Rattle.glass_tables.specs.Greys.{bits_of, grey_end}

-- the grey of a state from 0 to the swing
pub within_lt : (a n : ℕ) → a ≤ n → 1 ≤ n → (510 * a + n) / (2 * n) < 256
within_lt a n h s = (div-lt_iff_lt-mul {k = 2 * n} {x = 510 * a + n} {y = 256} (omega arith)).1 (omega arith)

pub gray_within : (a n : ℕ) → a ≤ n → 1 ≤ n → (510 * a + n) / (2 * n) ≡ gray_z (pos a) (pos n)
unfolding gray_z
gray_within a n h s = sym (ap nat_abs (clamp_mid (pos ((510 * a + n) / (2 * n))) (pos 0) (pos 255) (omega arith) (omega (arith, within_lt a n h s))))

-- ---- a step
module _ (x n k : ℕ) (some : 1 ≤ n) (fine : 255 * 2 ^ k ≤ n + 255) where
  -- its first state, and the grey of that
  abbrev b : ℕ
  b = x / 2 ^ k * 2 ^ k

  abbrev l : ℕ
  l = (510 * b + n) / (2 * n)

  low : l * (2 * n) ≤ 510 * b + n
  low = div-mul-le_self (510 * b + n) (2 * n)

  high : 510 * b + n < l * (2 * n) + 2 * n
  high = lt-div-mul-add {a = 510 * b + n} {b = 2 * n} (omega arith)

  pub first_le : b ≤ x
  first_le = div-mul-le_self x (2 ^ k)

  near : 510 * x ≤ 510 * b + 2 * n
  near = omega (arith, split x k, mod-lt x (pow_pos k))

  halves : (2 * l + 1) * n ≡ l * (2 * n) + n
  halves = omega (arith, add-mul (2 * l) 1 n, mul_assoc 2 l n, mul_left_comm l 2 n)

  more : (l + 1) * (2 * n) ≡ l * (2 * n) + 2 * n
  more = omega (arith, add-mul l 1 (2 * n))

  most : (l + 1 + 1) * (2 * n) ≡ l * (2 * n) + 2 * n + 2 * n
  most = omega (arith, add-mul (l + 1) 1 (2 * n), more)

  pub past : grey_end n l ≤ x → l + 1 ≡ (510 * x + n) / (2 * n)
  unfolding grey_end
  past h = sym (div-eq_of_lt-le (2 * n) (omega (arith, halves, more)) (omega (arith, most, near, high)))

  pub before : x < grey_end n l → l ≡ (510 * x + n) / (2 * n)
  unfolding grey_end
  before h = sym (div-eq_of_lt-le (2 * n) (omega (arith, low, first_le)) (omega (arith, halves, more)))

-- ---- the 64 bits of a state
pub bits_neg : (z : ℤ) → Lt z (pos 0) → Le least z → bits_of z + down z ≡ 18446744073709551616 + up z
bits_neg (pos n) h k = absurd (omega arith)
bits_neg (negsuc n) h k = omega arith

pub bits_pos : (z : ℤ) → Le (pos 0) z → nat_abs z ≡ bits_of z
bits_pos (pos n) h = refl
bits_pos (negsuc n) h = absurd (omega arith)

-- those that are no more than a number below 2^63 are the state itself
pub bits_within : (z : ℤ) (n : ℕ) → Le least z → n < 9223372036854775808 → bits_of z ≤ n → pos (bits_of z) ≡ z
bits_within (pos x) n k m h = refl
bits_within (negsuc x) n k m h = absurd (omega arith)

-- ---- where a grey ends, without the product that could pass 64 bits
pub end_is : (n m : ℕ) → n / 510 * m + (n % 510 * m + 509) / 510 ≡ (m * n + 509) / 510
end_is n m = omega (arith, split_mul n m 510, mul_comm m n)

pub whole_le : (n m : ℕ) → n < 9223372036854775808 → m ≤ 511 → n / 510 * m ≤ 9241457080064295359
whole_le n m h l = mul-le-mul {n₂ = 18085043209519169} {m₂ = 511} (omega arith) l

pub rest_le : (n m : ℕ) → m ≤ 511 → n % 510 * m ≤ 260099
rest_le n m l = mul-le-mul {n₂ = 509} {m₂ = 511} (omega arith) l
