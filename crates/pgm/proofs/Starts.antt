-- A file that starts with a text, and the text looked at byte by byte. Assumes nothing.
use mathlib.Core.Path.{◌≡◌, refl, sym, ap}
use mathlib.Core.Bool.{Bool, true, false, ◌&&◌}
use mathlib.Core.List.{List, [], ◌∷◌, ◌++◌}
use Prim.Native.Nat.{ℕ, ◌≤◌}
use native.Mathlib.Omega.{arith}
use lib.Dec.{eqb}
use lib.ListN.{length, take, drop, length-append}
use lib.Pointwise.{pointwise}
use borrow.Author.Tests.{eqb-true, eq-eqb}
use Rattle.numbers.proofs.Cases.{left, right}
use Rattle.pgm.specs.Form.{in_range, pgm_header, starts_with, is_header_of}

never : false ≡ true → ⊥
never e = let z : ◌≡◌ {A = ℕ} 0 1 = cc in omega arith

-- a text stands at the front of what starts with it
pub starts_append : (p s : List ℕ) → starts_with p (p ++ s) ≡ true
unfolding starts_with
starts_append [] s = refl
starts_append (c ∷ p) s = λ i. eq-eqb c c refl i && starts_append p s i

pub starts_is : (p f : List ℕ) → starts_with p f ≡ true → f ≡ p ++ drop (length p) f
unfolding starts_with
starts_is [] f e = refl
starts_is (c ∷ p) [] e = absurd (never e)
starts_is (c ∷ p) (d ∷ f) e =
    λ i. sym (eqb-true c d (left (eqb c d) (starts_with p f) e)) i ∷ starts_is p f (right (eqb c d) (starts_with p f) e) i

-- the text, compared with as much of the file
pub starts_pointwise : (p f : List ℕ) → pointwise eqb p (take (length p) f) ≡ starts_with p f
unfolding starts_with
starts_pointwise [] f = refl
starts_pointwise (c ∷ p) [] = refl
starts_pointwise (c ∷ p) (d ∷ f) = ap (λ (b : Bool). eqb c d && b) (starts_pointwise p f)

-- ---- a header found
module _ (w h : ℕ) (f : List ℕ) (is : is_header_of w h f ≡ true) where
  pub found_in_range : in_range w h ≡ true
  unfolding is_header_of
  found_in_range = left (in_range w h) (starts_with (pgm_header w h) f) is

  pub found_front : f ≡ pgm_header w h ++ drop (length (pgm_header w h)) f
  unfolding is_header_of
  found_front = starts_is (pgm_header w h) f (right (in_range w h) (starts_with (pgm_header w h) f) is)

  pub found_within : length (pgm_header w h) ≤ length f
  found_within = omega (arith, ap length found_front, length-append (pgm_header w h) (drop (length (pgm_header w h)) f))
