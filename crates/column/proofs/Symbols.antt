-- A column's length and its places. Assumes nothing.
use mathlib.Core.Path.{◌≡◌, sym}
use mathlib.Core.Bool.{Bool, true, false, ◌||◌}
use Prim.Native.Nat.{ℕ, zero, suc, ◌-◌, ◌^◌, ◌<◌, ◌≤◌}
use native.Mathlib.Nat.{one-le-pow, pow-le-pow_right, zero-lt-suc}
use native.Mathlib.Omega.{arith}
use borrow.Author.Tests.{lt-leb}
use lib.Dec.{eqb-suc-zero}
use lib.ListN.{length, get_or}
use Rattle.numbers.proofs.Painted.{length_tab, get_d_tab}
use Rattle.column.specs.Columns.{has_digit, symbol_at, column_of}

module _ (width : ℕ) (negative : Bool) (n : ℕ) where
  pub column_length : length (column_of width negative n) ≡ width
  unfolding column_of
  column_length = length_tab width _

  pub column_at_is : (i : ℕ) → i < width → get_or (column_of width negative n) i 0 ≡ symbol_at negative n (width - 1 - i)
  unfolding column_of
  column_at_is i h = get_d_tab width (λ k. symbol_at negative n (width - 1 - k)) i 0 h

-- the units' digit is always there
pub further : (n k : ℕ) → has_digit n k ≡ false → 1 ≤ k
further n zero e = absurd (never e)
  where
    never : true ≡ false → ⊥
    never e = let z : ◌≡◌ {A = ℕ} 0 1 = cc in omega arith
further n (suc k) e = omega arith

pub power_above : (k : ℕ) → 0 < 10 ^ k
power_above k = one-le-pow k 10 (zero-lt-suc 9)

-- a number of 64 bits has no digit from the twentieth place on
pub none_far : (n k : ℕ) → n < 2 ^ 64 → 20 ≤ k → false ≡ has_digit n k
none_far n zero b h = absurd (omega arith)
none_far n (suc k) b h =
    let p : 10 ^ 20 ≤ 10 ^ suc k = pow-le-pow_right {n = 10} (zero-lt-suc 9) {i = 20} {j = suc k} h in
    sym (λ i. eqb-suc-zero k i || lt-leb (10 ^ suc k) n (omega arith) i)
