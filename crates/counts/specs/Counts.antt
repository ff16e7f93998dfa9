-- A grey picture and how often each grey occurs in it (SCOPE, Grey counts; #108).
use Rattle.std.specs.Prelude.{List, [], ◌∷◌, ℕ, ◌+◌, eqb}
use Rattle.numbers.specs.Choice.{pick}
use Rattle.numbers.specs.Lists.{tab}

-- how many elements of a list are this grey (SCOPE, Grey counts; #108)
unfoldable pub occurs : ℕ → List ℕ → ℕ
occurs g [] = 0
occurs g (x ∷ xs) = pick (eqb x g) 1 0 + occurs g xs

-- a count for each grey from 0 to 255 (SCOPE, Grey counts; #108)
unfoldable pub counts_of : List ℕ → List ℕ
counts_of xs = tab 256 (λ g. occurs g xs)

-- the sum of a list
unfoldable pub sum : List ℕ → ℕ
sum [] = 0
sum (x ∷ xs) = x + sum xs

-- a grey picture with its counts (SCOPE, Grey counts; #108)
pub record Picture : Type 0 where
  pub pixels : List ℕ
  pub counts : List ℕ

-- the two as one
abbrev pub picture : List ℕ → List ℕ → Picture
picture pixels counts = record { pixels = pixels; counts = counts }
