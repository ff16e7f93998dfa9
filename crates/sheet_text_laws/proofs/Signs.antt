-- The number of a column that was written, with its sign. Assumes nothing.
use Rattle.std.specs.Prelude.{Some, None}
use mathlib.Core.Path.{◌≡◌, refl, sym, ap, ◌∙◌}
use mathlib.Core.Bool.{Bool, true, false, ◌&&◌, ◌||◌, true≢false}
use mathlib.Core.Logic.{⊎_elim}
use mathlib.Core.List.{List}
use Prim.Native.Nat.{ℕ, zero, suc, ◌+◌, ◌-◌, ◌*◌, ◌/◌, ◌%◌, ◌^◌, ◌<◌, ◌≤◌}
use native.Mathlib.Nat.{le_of_suc-le-suc, eq-or-lt_of_le}
use native.Mathlib.Omega.{arith}
use lib.Dec.{eqb, ltb}
use lib.IntN.{ℤ, pos, negsuc, neg_ℤ}
use lib.ListN.{length, get_or}
use borrow.Author.Tests.{ne_eqb, le-ltb, lt-leb}
use Rattle.numbers.specs.Choice.{pick}
use Rattle.numbers.specs.Lists.{tab}
use Rattle.numbers.proofs.Lin.{le_out}
use Rattle.otp.specs.Search.{any_of}
use Rattle.column.specs.Columns.{has_digit, symbol_at, column_of, natural, whole}
use Rattle.column.specs.Reading.{same, value_from, value_of, read_of}
use Rattle.column.proofs.Symbols.{column_at_is}
use Rattle.column.proofs.Reading.{written_read}
use Rattle.sheet_text_laws.specs.Fits.{ColumnFits}

-- ---- the digits
read_value : (bytes : List ℕ) (n : ℕ) → read_of bytes ≡ Some n → value_of bytes ≡ n
unfolding read_of
read_value bytes n = go (ltb 0 (length bytes) && same bytes (natural (length bytes) (value_of bytes)) && ltb (value_of bytes) (2 ^ 64))
  where
    go : (t : Bool) → pick t (Some (value_of bytes)) None ≡ Some n → value_of bytes ≡ n
    go true e = cc
    go false e = let z : ◌≡◌ {A = ℕ} 0 1 = cc in absurd (omega arith)

pub natural_value : (w n : ℕ) → n < 10 ^ suc w → n < 2 ^ 64 → value_of (natural (suc w) n) ≡ n
natural_value w n l m = read_value (natural (suc w) n) n (written_read w n l m)

-- a sign counts as a blank does
symbol_digit : (n k : ℕ) → symbol_at true n k - 48 ≡ symbol_at false n k - 48
unfolding symbol_at
symbol_digit n k = by (has_digit n k) (has_digit n (k - 1))
  where
    by : (a b : Bool) → pick a (48 + n / 10 ^ k % 10) (pick (true && b) 45 32) - 48 ≡ pick a (48 + n / 10 ^ k % 10) (pick (false && b) 45 32) - 48
    by true b = refl
    by false true = refl
    by false false = refl

value_same : (w m : ℕ) (f g : ℕ → ℕ) → ((i : ℕ) → f i - 48 ≡ g i - 48) → value_from m (tab w f) ≡ value_from m (tab w g)
unfolding tab
value_same zero m f g h = refl
value_same (suc w) m f g h =
    ap (λ (d : ℕ). value_from (10 * m + d) (tab w (λ k. f (suc k)))) (h 0)
    ∙ value_same w (10 * m + (g 0 - 48)) (λ k. f (suc k)) (λ k. g (suc k)) (λ i. h (suc i))

pub column_value : (w n : ℕ) (negative : Bool) → n < 10 ^ suc w → n < 2 ^ 64 → value_of (column_of (suc w) negative n) ≡ n
unfolding column_of
column_value w n false l m = natural_value w n l m
column_value w n true l m =
    value_same (suc w) 0 (λ i. symbol_at true n (suc w - 1 - i)) (λ i. symbol_at false n (suc w - 1 - i)) (λ i. symbol_digit n (suc w - 1 - i))
    ∙ natural_value w n l m

-- ---- the sign
module _ (p : ℕ → Bool) where
  pub any_false : (n : ℕ) → ((k : ℕ) → k < n → p k ≡ false) → any_of p n ≡ false
  unfolding any_of
  any_false zero h = refl
  any_false (suc n) h = rw (any_false n (λ k l. h k (omega arith)), h n (omega arith))

  any_true : (n k : ℕ) → k < n → p k ≡ true → any_of p n ≡ true
  unfolding any_of
  any_true zero k l e = absurd (omega arith)
  any_true (suc n) k l e =
      ⊎_elim (λ (q : k ≡ n). or_right (any_of p n) (p n) (ap p (sym q) ∙ e)) (λ (m : k < n). rw (any_true n k m e)) (eq-or-lt_of_le (le_of_suc-le-suc l))
    where
      or_right : (a b : Bool) → b ≡ true → a || b ≡ true
      or_right true b e = refl
      or_right false b e = e

pub any_same : (p q : ℕ → Bool) (n : ℕ) → ((k : ℕ) → k < n → p k ≡ q k) → any_of p n ≡ any_of q n
unfolding any_of
any_same p q zero h = refl
any_same p q (suc n) h = λ i. any_same p q n (λ k l. h k (omega arith)) i || h n (omega arith) i

-- a minus stands in a column of seven
abbrev pub minus_in : List ℕ → Bool
minus_in column = any_of (λ i. eqb (get_or column i 0) 45) 7

no_minus_symbol : (n k : ℕ) → symbol_at false n k ≡ 45 → ⊥
unfolding symbol_at
no_minus_symbol n k = by (has_digit n k) (has_digit n (k - 1))
  where
    by : (a b : Bool) → pick a (48 + n / 10 ^ k % 10) (pick (false && b) 45 32) ≡ 45 → ⊥
    by true b e = omega arith
    by false true e = omega arith
    by false false e = omega arith

pub no_minus : (n : ℕ) → minus_in (column_of 7 false n) ≡ false
no_minus n =
    any_false (λ i. eqb (get_or (column_of 7 false n) i 0) 45) 7
    (λ i l. ap (λ (b : ℕ). eqb b 45) (column_at_is 7 false n i l) ∙ ne_eqb (symbol_at false n (7 - 1 - i)) 45 (no_minus_symbol n (7 - 1 - i)))

-- the place just left of the digits, at most k
abbrev Edge : ℕ → ℕ → Type 0
Edge n k = (j : ℕ) × ((j ≤ k) × ((has_digit n j ≡ false) × (has_digit n (j - 1) ≡ true)))

edge : (n k : ℕ) → has_digit n k ≡ false → Edge n k
edge n zero e = absurd (true≢false e)
edge n (suc k) e = by (has_digit n k) refl (edge n k)
  where
    by : (t : Bool) → has_digit n k ≡ t → (has_digit n k ≡ false → Edge n k) → Edge n (suc k)
    by true h more = (suc k, (omega arith, (e, ap (has_digit n) (let q : suc k - 1 ≡ k = omega arith in q) ∙ h)))
    by false h more = let m = more h in (m.0, (omega (arith, m.1.0), m.1.1))

minus_symbol : (n j : ℕ) → has_digit n j ≡ false → has_digit n (j - 1) ≡ true → symbol_at true n j ≡ 45
unfolding symbol_at
minus_symbol n j e f = rw (e, f)

pub a_minus : (n : ℕ) → n < 1000000 → minus_in (column_of 7 true n) ≡ true
a_minus n l =
    let left = edge n 6 (lt-leb 1000000 n l) in
    let j = left.0 in
    let within : j ≤ 6 = left.1.0 in
    any_true (λ i. eqb (get_or (column_of 7 true n) i 0) 45) 7 (6 - j) (omega arith)
    (ap (λ (b : ℕ). eqb b 45)
    (column_at_is 7 true n (6 - j) (omega arith) ∙ ap (symbol_at true n) (let e : 7 - 1 - (6 - j) ≡ j = omega arith in e) ∙ minus_symbol n j left.1.1.0 left.1.1.1))

-- ---- a whole number, read back
abbrev read_back : List ℕ → ℤ
read_back column = pick (minus_in column) (neg_ℤ (pos (value_of column))) (pos (value_of column))

pub whole_back : (z : ℤ) → ColumnFits z → read_back (whole 7 z) ≡ z
whole_back (pos n) f =
    let l = le_out f.high in
    let small : n < 10 ^ 7 = omega (arith, l) in
    (λ i. read_back (column_of 7 (le-ltb n 0 (omega arith) i) n))
    ∙ (λ i. pick (no_minus n i) (neg_ℤ (pos (value_of (column_of 7 false n)))) (pos (value_of (column_of 7 false n))))
    ∙ ap pos (column_value 6 n false small (omega arith))
whole_back (negsuc m) f =
    let l = le_out f.low in
    let small : suc m < 1000000 = omega (arith, l) in
    (λ i. pick (a_minus (suc m) small i) (neg_ℤ (pos (value_of (column_of 7 true (suc m))))) (pos (value_of (column_of 7 true (suc m)))))
    ∙ ap (λ (k : ℕ). neg_ℤ (pos k)) (column_value 6 (suc m) true (omega arith) (omega arith))
