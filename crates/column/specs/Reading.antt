-- The number in a column of decimals, right-justified, blanks in front, no leading zeros (docs/replay-format.md; #102).
use Rattle.std.specs.Prelude.{Bool, true, false, ◌&&◌, List, [], ◌∷◌, ℕ, ◌+◌, ◌-◌, ◌*◌, ◌^◌, eqb, leb, ltb, length, Option, Some, None}
use Rattle.numbers.specs.Choice.{pick}
use Rattle.column.specs.Columns.{natural}

-- two texts are the same
abbrev pub same : List ℕ → List ℕ → Bool
same [] [] = true
same [] (y ∷ ys) = false
same (x ∷ xs) [] = false
same (x ∷ xs) (y ∷ ys) = eqb x y && same xs ys

-- n, and then digits in ASCII: each counts tenfold what stands before it; a blank counts 0
abbrev pub value_from : ℕ → List ℕ → ℕ
value_from n [] = n
value_from n (c ∷ cs) = value_from (10 * n + (c - 48)) cs

-- the number that digits in ASCII write
abbrev pub value_of : List ℕ → ℕ
value_of bytes = value_from 0 bytes

-- bytes are a number's column where writing that number into it gives them back, and the number has 64 bits
unfoldable pub read_of : List ℕ → Option ℕ
read_of bytes =
    pick (ltb 0 (length bytes) && same bytes (natural (length bytes) (value_of bytes)) && ltb (value_of bytes) (2 ^ 64))
    (Some (value_of bytes)) None

-- n with a digit after it, where there is room for it in 64 bits
unfoldable pub digit_of : ℕ → ℕ → Option ℕ
digit_of n c = pick (leb 48 c && leb c 57 && ltb (10 * n + (c - 48)) (2 ^ 64)) (Some (10 * n + (c - 48))) None

-- what stands left of the units, a byte further: blanks, then a digit that is not 0, then digits
abbrev pub step_of : Option ℕ → ℕ → Option ℕ
step_of None c = None
step_of (Some n) c = pick (eqb n 0 && eqb c 32) (Some 0) (pick (eqb n 0 && eqb c 48) None (digit_of n c))

-- the units' digit
abbrev pub last_of : Option ℕ → ℕ → Option ℕ
last_of None c = None
last_of (Some n) c = digit_of n c
