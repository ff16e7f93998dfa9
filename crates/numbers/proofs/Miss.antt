-- A number that no row of a table has is found in none: what is known in the last arm of a `match` whose other arms are the rows, in their order.
-- Assumes nothing.
use Prim.Native.Nat.{ℕ}
use mathlib.Core.Path.{◌≡◌, refl}
use mathlib.Core.List.{List, [], ◌∷◌}
use borrow.Author.Tests.{ne_eqb}
use Rattle.numbers.specs.Rows.{TableRow, lookup}

-- K, and that n is no row's number, as a `match`'s `rest` nests it
abbrev pub Rest : {A : Type 0} → ℕ → Type 0 → List (TableRow A) → Type 0
Rest n K [] = K
Rest n K (r ∷ rs) = Rest n (K × (n ≡ r.number → ⊥)) rs

pub miss : {A : Type 0} (none : A) (n : ℕ) (rs : List (TableRow A)) (K : Type 0) → Rest n K rs → K × (none ≡ lookup none n rs)
unfolding lookup
miss none n [] K h = (h, refl)
miss none n (r ∷ rs) K h =
    let p : (K × (n ≡ r.number → ⊥)) × (none ≡ lookup none n rs) = miss none n rs (K × (n ≡ r.number → ⊥)) h in
    (p.0.0, rw (ne_eqb n r.number p.0.1) p.1)
