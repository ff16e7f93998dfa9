-- A table of rows, each a number with what stands beside it.
use Rattle.std.specs.Prelude.{List, [], ◌∷◌, ℕ, eqb}
use Rattle.numbers.specs.Choice.{pick}

-- a row: its number, and what the table gives for it
pub record TableRow (A : Type 0) : Type 0 where
  pub number : ℕ
  pub gives : A

-- what the first row with the number gives; `none` where no row has it
unfoldable pub lookup : {A : Type 0} → A → ℕ → List (TableRow A) → A
lookup none n [] = none
lookup none n (r ∷ rs) = pick (eqb n r.number) r.gives (lookup none n rs)
