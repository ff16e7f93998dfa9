-- A number below 1,000 in decimal, read where it stands. Assumes nothing.
use mathlib.Core.Path.{◌≡◌, refl, sym, ap, ◌∙◌}
use mathlib.Core.Bool.{Bool, true, false, ◌&&◌}
use mathlib.Core.List.{List, [], ◌∷◌, ◌++◌}
use Prim.Native.Nat.{ℕ, ◌+◌, ◌-◌, ◌*◌, ◌/◌, ◌%◌, ◌^◌, ◌≤◌}
use native.Mathlib.Nat.{div-one}
use native.Mathlib.Omega.{arith}
use lib.Dec.{leb}
use lib.ListN.{length, get_or}
use lib.Seq.{get_or-append_seam, get_or-append-add}
use borrow.Author.Tests.{leb-true, leb-false, le-leb}
use Rattle.numbers.specs.Choice.{pick}
use Rattle.numbers.specs.Lists.{tab}
use Rattle.numbers.proofs.Cases.{took, passed}
use Rattle.column.specs.Columns.{symbol_at, column_of, natural}
use Rattle.pgm.specs.declared.form.Number.{Number}
use Rattle.pgm.specs.Form.{digit_count, decimal, is_digit, with_digit, number_at}

abbrev numbered : ℕ → ℕ → Number
numbered value end = record { value = value; end = end }

-- ---- one place of a file
module _ (f : List ℕ) (v e : ℕ) where
  on : (d : ℕ) → get_or f e 0 ≡ 48 + d → d ≤ 9 → with_digit f (numbered v e) ≡ numbered (10 * v + d) (e + 1)
  unfolding with_digit
  on d is h =
      sym
      (took _ _ _ _ (ap is_digit is ∙ (λ i. le-leb 48 (48 + d) (omega arith) i && le-leb (48 + d) 57 (omega arith) i))
      (λ i. numbered (10 * v + worth i) (e + 1)))
    where
      worth : d ≡ get_or f e 0 - 48
      worth = omega (arith, is)

  off : is_digit (get_or f e 0) ≡ false → with_digit f (numbered v e) ≡ numbered v e
  unfolding with_digit
  off is = sym (passed _ _ _ _ is refl)

-- ---- one, two and three digits
module _ (f : List ℕ) (at : ℕ) where
  one : (a : ℕ) → get_or f at 0 ≡ 48 + a → a ≤ 9 → is_digit (get_or f (at + 1) 0) ≡ false → number_at f at ≡ numbered (10 * 0 + a) (at + 1)
  unfolding number_at
  one a e h x =
      ap (λ (n : Number). with_digit f (with_digit f n)) (on f 0 at a e h)
      ∙ ap (with_digit f) (off f (10 * 0 + a) (at + 1) x) ∙ off f (10 * 0 + a) (at + 1) x

  two : (a b : ℕ) → get_or f at 0 ≡ 48 + a → a ≤ 9 → get_or f (at + 1) 0 ≡ 48 + b → b ≤ 9 → is_digit (get_or f (at + 1 + 1) 0) ≡ false
      → number_at f at ≡ numbered (10 * (10 * 0 + a) + b) (at + 1 + 1)
  unfolding number_at
  two a b e h g k x =
      ap (λ (n : Number). with_digit f (with_digit f n)) (on f 0 at a e h)
      ∙ ap (with_digit f) (on f (10 * 0 + a) (at + 1) b g k) ∙ off f (10 * (10 * 0 + a) + b) (at + 1 + 1) x

  three : (a b c : ℕ) → get_or f at 0 ≡ 48 + a → a ≤ 9 → get_or f (at + 1) 0 ≡ 48 + b → b ≤ 9 → get_or f (at + 1 + 1) 0 ≡ 48 + c → c ≤ 9
      → number_at f at ≡ numbered (10 * (10 * (10 * 0 + a) + b) + c) (at + 1 + 1 + 1)
  unfolding number_at
  three a b c e h g k l m =
      ap (λ (n : Number). with_digit f (with_digit f n)) (on f 0 at a e h)
      ∙ ap (with_digit f) (on f (10 * 0 + a) (at + 1) b g k) ∙ on f (10 * (10 * 0 + a) + b) (at + 1 + 1) c l m

-- ---- a decimal's digits
abbrev units : ℕ → ℕ
units n = n / 10 ^ 0 % 10

abbrev tens : ℕ → ℕ
tens n = n / 10 ^ 1 % 10

abbrev hundreds : ℕ → ℕ
hundreds n = n / 10 ^ 2 % 10

-- in ASCII, from the hundreds, the tens and the units on
abbrev from_hundreds : ℕ → List ℕ
from_hundreds n = (48 + hundreds n) ∷ (48 + tens n) ∷ (48 + units n) ∷ []

abbrev from_tens : ℕ → List ℕ
from_tens n = (48 + tens n) ∷ (48 + units n) ∷ []

abbrev from_units : ℕ → List ℕ
from_units n = (48 + units n) ∷ []

module _ (n : ℕ) where
  short : leb 100 n ≡ false → leb 10 n ≡ false → decimal n ≡ from_units n
  unfolding digit_count column_of tab symbol_at
  short a b = λ i. natural (pick (a i) 3 (pick (b i) 2 1)) n

  middle : leb 100 n ≡ false → leb 10 n ≡ true → decimal n ≡ from_tens n
  unfolding digit_count column_of tab symbol_at
  middle a b = (λ i. natural (pick (a i) 3 (pick (b i) 2 1)) n) ∙ (λ i. pick (b i) (48 + tens n) 32 ∷ (48 + units n) ∷ [])

  long : leb 100 n ≡ true → leb 10 n ≡ true → decimal n ≡ from_hundreds n
  unfolding digit_count column_of tab symbol_at
  long a b =
      (λ i. natural (pick (a i) 3 (pick (leb 10 n) 2 1)) n)
      ∙ (λ i. pick (a i) (48 + hundreds n) 32 ∷ pick (b i) (48 + tens n) 32 ∷ (48 + units n) ∷ [])

-- ---- a number in a file, with something that is no digit behind it
module _ (p rest : List ℕ) (n c : ℕ) (small : n ≤ 999) (ends : is_digit c ≡ false) where
  -- the file, of digits d
  abbrev file : List ℕ → List ℕ
  file d = p ++ (d ++ (c ∷ rest))

  second : (d : List ℕ) → get_or (file d) (length p + 1) 0 ≡ get_or (d ++ (c ∷ rest)) 1 0
  second d = get_or-append-add p (d ++ (c ∷ rest)) 1 0

  third : (d : List ℕ) → get_or (file d) (length p + 1 + 1) 0 ≡ get_or (d ++ (c ∷ rest)) 2 0
  third d = ap (λ (k : ℕ). get_or (file d) k 0) (omega arith) ∙ get_or-append-add p (d ++ (c ∷ rest)) 2 0

  abbrev Read : Type 0
  Read = number_at (file (decimal n)) (length p) ≡ numbered n (length p + digit_count n)

  -- what was read of the digits d is n and its place
  settled : (d : List ℕ) (v e : ℕ) → decimal n ≡ d → number_at (file d) (length p) ≡ numbered v e → v ≡ n → e ≡ length p + digit_count n → Read
  settled d v e is r value end = ap (λ (l : List ℕ). number_at (file l) (length p)) is ∙ r ∙ (λ i. numbered (value i) (end i))

  by : (a b : Bool) → leb 100 n ≡ a → leb 10 n ≡ b → Read
  unfolding digit_count
  by true true e g =
      settled _ _ _ (long n e g)
      (three (file (from_hundreds n)) (length p) (hundreds n) (tens n) (units n)
      (get_or-append_seam p (48 + hundreds n) _ 0) (omega arith) (second (from_hundreds n)) (omega arith) (third (from_hundreds n)) (omega arith))
      (omega (arith, div-one n)) (omega arith ∙ sym (λ i. length p + pick (e i) 3 (pick (leb 10 n) 2 1)))
  by true false e g = absurd (omega (arith, leb-true 100 n e, leb-false 10 n g))
  by false true e g =
      settled _ _ _ (middle n e g)
      (two (file (from_tens n)) (length p) (tens n) (units n)
      (get_or-append_seam p (48 + tens n) _ 0) (omega arith) (second (from_tens n)) (omega arith) (ap is_digit (third (from_tens n)) ∙ ends))
      (omega (arith, div-one n, leb-false 100 n e)) (omega arith ∙ sym (λ i. length p + pick (e i) 3 (pick (g i) 2 1)))
  by false false e g =
      settled _ _ _ (short n e g)
      (one (file (from_units n)) (length p) (units n)
      (get_or-append_seam p (48 + units n) _ 0) (omega arith) (ap is_digit (second (from_units n)) ∙ ends))
      (omega (arith, div-one n, leb-false 10 n g)) (omega arith ∙ sym (λ i. length p + pick (e i) 3 (pick (g i) 2 1)))

  pub decimal_read : Read
  decimal_read = by (leb 100 n) (leb 10 n) refl refl
