-- The size's range as bounds, and the length of a header. Assumes nothing.
use mathlib.Core.Path.{◌≡◌, ◌∙◌}
use mathlib.Core.Bool.{Bool, true, false, ◌&&◌}
use mathlib.Core.List.{List}
use Prim.Native.Nat.{ℕ, ◌+◌, ◌*◌, ◌≤◌}
use native.Mathlib.Nat.{mul-le-mul}
use native.Mathlib.Omega.{arith}
use lib.Dec.{leb}
use lib.ListN.{length, length-append}
use borrow.Author.Tests.{leb-true}
use Rattle.numbers.specs.Choice.{pick}
use Rattle.numbers.proofs.Cases.{left, right}
use Rattle.column.specs.Columns.{gathered, natural}
use Rattle.column.proofs.Symbols.{column_length}
use Rattle.pgm.specs.Form.{in_range, digit_count, decimal, pgm_header, header_bytes}

-- what a size in range is
pub record Ranged (w h : ℕ) : Type 0 where
  pub wide : 1 ≤ w
  pub within : w ≤ 960
  pub high : 1 ≤ h
  pub below : h ≤ 680

pub ranged : (w h : ℕ) → in_range w h ≡ true → Ranged w h
unfolding in_range
ranged w h e =
    let a = left (leb 1 w && leb w 960) (leb 1 h && leb h 680) e in
    let b = right (leb 1 w && leb w 960) (leb 1 h && leb h 680) e in
    record {
      wide = leb-true 1 w (left (leb 1 w) (leb w 960) a);
      within = leb-true w 960 (right (leb 1 w) (leb w 960) a);
      high = leb-true 1 h (left (leb 1 h) (leb h 680) b);
      below = leb-true h 680 (right (leb 1 h) (leb h 680) b);
    }

-- the largest picture
pub most : (w h : ℕ) → in_range w h ≡ true → w * h ≤ 652800
most w h e = let r = ranged w h e in mul-le-mul {n₂ = 960} {m₂ = 680} r.within r.below

pub digits_few : (n : ℕ) → (1 ≤ digit_count n) × (digit_count n ≤ 3)
unfolding digit_count
digits_few n = go (leb 100 n) (leb 10 n)
  where
    go : (a b : Bool) → (1 ≤ pick a 3 (pick b 2 1)) × (pick a 3 (pick b 2 1) ≤ 3)
    go true b = (omega arith, omega arith)
    go false true = (omega arith, omega arith)
    go false false = (omega arith, omega arith)

-- a column just as wide as its number has digits
pub in_decimal : (before : List ℕ) {after : List ℕ} {width m : ℕ} (n : ℕ) → after ≡ gathered header_bytes before (natural width m) → width ≡ digit_count n → m ≡ n
    → after ≡ gathered header_bytes before (decimal n)
in_decimal before n e w f = e ∙ (λ i. gathered header_bytes before (natural (w i) (f i)))

module _ (w h : ℕ) where
  pub header_length : length (pgm_header w h) ≡ 9 + digit_count w + digit_count h
  unfolding pgm_header
  header_length =
      simp length-append
      (let a = column_length (digit_count w) false w in
      let b = column_length (digit_count h) false h in
      omega arith)

  pub header_few : length (pgm_header w h) ≤ 15
  header_few = omega (arith, header_length, (digits_few w).1, (digits_few h).1)
