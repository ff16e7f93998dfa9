-- A column without its units: how a column and what stands left of its units grow to the right, byte by byte. Assumes nothing.
--     front w n       w places of n, as a column has them but for the units' digit that is always there: 0 is blanks alone
use mathlib.Core.Path.{◌≡◌, refl, sym, ap, ◌∙◌}
use mathlib.Core.Bool.{Bool, true, false, ◌||◌}
use mathlib.Core.List.{List, [], ◌∷◌, ◌++◌}
use Prim.Native.Nat.{ℕ, zero, suc, ◌+◌, ◌-◌, ◌*◌, ◌/◌, ◌%◌, ◌^◌, ◌<◌}
use native.Mathlib.Nat.{div-div-eq-div-mul, div-one, pow-suc, pow-succ'}
use native.Mathlib.Omega.{arith}
use lib.Dec.{leb, eqb-suc-zero}
use lib.ListN.{length}
use borrow.Author.Tests.{leb-true, leb-false, le-leb, lt-leb}
use Rattle.numbers.specs.Choice.{pick}
use Rattle.numbers.specs.Lists.{tab}
use Rattle.numbers.proofs.Painted.{length_tab, tab_ext}
use Rattle.column.specs.Columns.{symbol_at, column_of, natural}

abbrev front_at : ℕ → ℕ → ℕ
front_at n k = pick (leb (10 ^ k) n) (48 + n / 10 ^ k % 10) 32

unfoldable pub front : ℕ → ℕ → List ℕ
front w n = tab w (λ i. front_at n (w - 1 - i))

pub front_length : (w n : ℕ) → length (front w n) ≡ w
unfolding front
front_length w n = length_tab w (λ i. front_at n (w - 1 - i))

tab_snoc : (n : ℕ) (f : ℕ → ℕ) → tab (suc n) f ≡ tab n f ++ (f n ∷ [])
unfolding tab
tab_snoc zero f = refl
tab_snoc (suc n) f = ap (λ (l : List ℕ). f 0 ∷ l) (tab_snoc n (λ k. f (suc k)))

-- a place of n is the place before it of n / 10
reaches : (p n : ℕ) (t : Bool) → leb (p * 10) n ≡ t → t ≡ leb p (n / 10)
reaches p n true e = sym (le-leb p (n / 10) (omega (arith, leb-true (p * 10) n e)))
reaches p n false e = sym (lt-leb p (n / 10) (omega (arith, leb-false (p * 10) n e)))

reach : (n k : ℕ) → leb (10 ^ suc k) n ≡ leb (10 ^ k) (n / 10)
reach n k = ap (λ (p : ℕ). leb p n) (pow-suc 10 k) ∙ reaches (10 ^ k) n _ refl

digits : (n k : ℕ) → n / 10 ^ suc k ≡ n / 10 / 10 ^ k
digits n k = ap (λ (p : ℕ). n / p) (pow-succ' 10 k) ∙ sym (div-div-eq-div-mul n 10 (10 ^ k))

shifted : (n k : ℕ) → front_at n (suc k) ≡ front_at (n / 10) k
shifted n k = λ i. pick (reach n k i) (48 + digits n k i % 10) 32

symbol_front : (n k : ℕ) → symbol_at false n (suc k) ≡ front_at n (suc k)
unfolding symbol_at
symbol_front n k = ap (λ (b : Bool). pick (b || leb (10 ^ suc k) n) (48 + n / 10 ^ suc k % 10) 32) (eqb-suc-zero k)

units : (n : ℕ) → n / 10 ^ 0 % 10 ≡ n % 10
units n = ap (λ (m : ℕ). m % 10) (div-one n)

symbol_units : (n : ℕ) → symbol_at false n 0 ≡ 48 + n % 10
unfolding symbol_at
symbol_units n = ap (λ (d : ℕ). 48 + d) (units n)

left : (w i : ℕ) → i < w → suc w - 1 - i ≡ suc (w - 1 - i)
left w i h = omega arith

none_left : (w : ℕ) → suc w - 1 - w ≡ 0
none_left w = omega arith

-- a column is a front and the units' digit
pub column_more : (w n : ℕ) → natural (suc w) n ≡ front w (n / 10) ++ ((48 + n % 10) ∷ [])
unfolding column_of front
column_more w n =
    tab_snoc w (λ i. symbol_at false n (suc w - 1 - i))
    ∙ (λ j. tab_ext w (λ i. symbol_at false n (suc w - 1 - i)) (λ i. front_at (n / 10) (w - 1 - i)) place j ++ (units_at j ∷ []))
  where
    place : (i : ℕ) → i < w → symbol_at false n (suc w - 1 - i) ≡ front_at (n / 10) (w - 1 - i)
    place i h = ap (symbol_at false n) (left w i h) ∙ symbol_front n (w - 1 - i) ∙ shifted n (w - 1 - i)

    units_at : symbol_at false n (suc w - 1 - w) ≡ 48 + n % 10
    units_at = ap (symbol_at false n) (none_left w) ∙ symbol_units n

-- a front is a shorter one and a digit, or a blank where the number is 0
pub front_more : (w n : ℕ) → front (suc w) n ≡ front w (n / 10) ++ (pick (leb 1 n) (48 + n % 10) 32 ∷ [])
unfolding front
front_more w n =
    tab_snoc w (λ i. front_at n (suc w - 1 - i))
    ∙ (λ j. tab_ext w (λ i. front_at n (suc w - 1 - i)) (λ i. front_at (n / 10) (w - 1 - i)) place j ++ (units_at j ∷ []))
  where
    place : (i : ℕ) → i < w → front_at n (suc w - 1 - i) ≡ front_at (n / 10) (w - 1 - i)
    place i h = ap (front_at n) (left w i h) ∙ shifted n (w - 1 - i)

    units_at : front_at n (suc w - 1 - w) ≡ pick (leb 1 n) (48 + n % 10) 32
    units_at = ap (front_at n) (none_left w) ∙ ap (λ (d : ℕ). pick (leb 1 n) (48 + d) 32) (units n)
