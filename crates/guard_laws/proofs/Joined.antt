-- Tests joined by `&`: where all pass, each does. Assumes nothing.
use Prim.Native.Nat.{ℕ, zero, suc}
use mathlib.Core.Path.{◌≡◌, refl, sym, ap, ◌∙◌}
use mathlib.Core.Bool.{Bool, true, ◌&&◌}
use mathlib.Core.List.{List, [], ◌∷◌}
use lib.ListN.{get_or}
use Rattle.numbers.proofs.Cases.{left}

-- a & b & c & ..
abbrev pub joined : Bool → List Bool → Bool
joined a [] = a
joined a (b ∷ bs) = joined (a && b) bs

first : (a : Bool) (bs : List Bool) → joined a bs ≡ true → a ≡ true
first a [] e = e
first a (b ∷ bs) e = left a b (first (a && b) bs e)

rest : (a b : Bool) (bs : List Bool) → a ≡ true → joined (a && b) bs ≡ true → joined b bs ≡ true
rest a b bs h e = ap (λ (x : Bool). joined (x && b) bs) (sym h) ∙ e

pub each : (a : Bool) (bs : List Bool) → joined a bs ≡ true → (k : ℕ) → get_or (a ∷ bs) k true ≡ true
each a bs e zero = first a bs e
each a [] e (suc k) = refl
each a (b ∷ bs) e (suc k) = each b bs (rest a b bs (first a (b ∷ bs) e) e) k
