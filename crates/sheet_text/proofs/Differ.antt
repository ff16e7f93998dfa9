-- Two texts compared byte by byte. Assumes nothing.
use Rattle.std.specs.Prelude.{Some, None}
use Rattle.std.proofs.Common.{Iter}
use mathlib.Core.Path.{◌≡◌, refl, sym}
use mathlib.Core.Bool.{Bool, true, false}
use mathlib.Core.List.{List, [], ◌∷◌}
use mathlib.Core.Logic.{◌⊎◌, inl, inr}
use Prim.Native.Nat.{ℕ, ◌+◌, ◌≤◌}
use native.Mathlib.Omega.{arith}
use lib.Dec.{eqb}
use lib.ListN.{length}
use borrow.Author.Tests.{eq-eqb, ne_eqb}
use Rattle.numbers.specs.Choice.{pick}
use Rattle.numbers.proofs.Cases.{took, passed}
use Rattle.sheet_text.specs.Reading.{line_after, differs_in}

-- the bytes that come next are one
pub goes_on : (n x y : ℕ) (xs ys : List ℕ) → x ≡ y → differs_in n (x ∷ xs) (y ∷ ys) ≡ differs_in (line_after n x) xs ys
unfolding differs_in
goes_on n x y xs ys e = sym (took _ _ _ _ (eq-eqb x y e) refl)

-- or two
pub stops : (n x y : ℕ) (xs ys : List ℕ) → (x ≡ y → ⊥) → Some n ≡ differs_in n (x ∷ xs) (y ∷ ys)
unfolding differs_in
stops n x y xs ys e = passed _ _ _ _ (ne_eqb x y e) refl

-- one of two iterators is at its end, as `zip` tells it
pub one : (a b : Iter ℕ) → ((x : Iter ℕ) × ((length a.rest.now ≡ 0) × (x ≡ a))) ⊎ ((x : Iter ℕ) × ((length b.rest.now ≡ 0) × (x ≡ b)))
    → (length a.rest.now ≡ 0) ⊎ (length b.rest.now ≡ 0)
one a b (inl h) = inl h.1.0
one a b (inr h) = inr h.1.0

-- where one text ends, the other ends too
pub ends : (n : ℕ) (xs ys : List ℕ) → (length xs ≡ 0) ⊎ (length ys ≡ 0) → length xs ≡ length ys → None ≡ differs_in n xs ys
unfolding differs_in
ends n [] [] e l = refl
ends n [] (y ∷ ys) e l = absurd (omega arith)
ends n (x ∷ xs) [] e l = absurd (omega arith)
ends n (x ∷ xs) (y ∷ ys) (inl e) l = absurd (omega arith)
ends n (x ∷ xs) (y ∷ ys) (inr e) l = absurd (omega arith)

-- or goes on
pub one_ends : (n : ℕ) (xs ys : List ℕ) → (length xs ≡ 0) ⊎ (length ys ≡ 0) → (length xs ≡ length ys → ⊥) → Some n ≡ differs_in n xs ys
unfolding differs_in
one_ends n [] [] e l = absurd (l refl)
one_ends n [] (y ∷ ys) e l = refl
one_ends n (x ∷ xs) [] e l = refl
one_ends n (x ∷ xs) (y ∷ ys) (inl e) l = absurd (omega arith)
one_ends n (x ∷ xs) (y ∷ ys) (inr e) l = absurd (omega arith)

-- a line more at most
pub after_most : (n byte : ℕ) → line_after n byte ≤ n + 1
after_most n byte = by (eqb byte 10)
  where
    by : (b : Bool) → pick b (n + 1) n ≤ n + 1
    by true = omega arith
    by false = omega arith
