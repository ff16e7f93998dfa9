-- The exact reckoning of one pixel: its state is a natural number from 0 to S, the swing, and a drive a whole number
-- (SCOPE, History: a whole number for each pixel, drives added one after the other, each sum held between 0 and S).
use Rattle.std.specs.Prelude.{List, [], ◌∷◌, ℕ, min, ℤ, pos, negsuc, ◌+ℤ◌}

-- z held between 0 and S
abbrev pub held : ℕ → ℤ → ℕ
held S (pos n) = min n S
held S (negsuc n) = 0

-- one drive: the exact sum, held
unfoldable pub drive : ℕ → ℤ → ℕ → ℕ
drive S d x = held S (pos x +ℤ d)

-- a list of drives, one after the other, each sum held
unfoldable pub drives : ℕ → List ℤ → ℕ → ℕ
drives S [] x = x
drives S (d ∷ ds) x = drives S ds (drive S d x)
