-- Columns of decimals, right-justified (SCOPE, Listing), in ASCII, and text gathered.
use Rattle.std.specs.Prelude.{Bool, false, ◌&&◌, ◌||◌, List, [], ◌∷◌, ◌++◌, ℕ, ◌+◌, ◌-◌, ◌/◌, ◌%◌, ◌^◌, ℤ, pos, nat_abs, eqb, leb, ltb, length, take, drop}
use Rattle.std.specs.Int.Signed.{lt_z}
use Rattle.numbers.specs.Choice.{pick}
use Rattle.numbers.specs.Lists.{tab}

-- n has a digit at place k, counted from the units' 0: the units' digit always, others as far as n reaches
abbrev pub has_digit : ℕ → ℕ → Bool
has_digit n k = eqb k 0 || leb (10 ^ k) n

-- at place k of a column stands n's digit, if it has one there; just left of its digits the sign, if it is below 0; else a blank
unfoldable pub symbol_at : Bool → ℕ → ℕ → ℕ
symbol_at negative n k = pick (has_digit n k) (48 + n / 10 ^ k % 10) (pick (negative && has_digit n (k - 1)) 45 32)

-- a column, its last place the units'
unfoldable pub column_of : ℕ → Bool → ℕ → List ℕ
column_of width negative n = tab width (λ i. symbol_at negative n (width - 1 - i))

-- a column of a number that is not below 0
abbrev pub natural : ℕ → ℕ → List ℕ
natural width n = column_of width false n

-- a column of any whole number
abbrev pub whole : ℕ → ℤ → List ℕ
whole width z = column_of width (lt_z z (pos 0)) (nat_abs z)

-- LF
abbrev pub line_end : List ℕ
line_end = 10 ∷ []

-- bytes, and the place where the next text goes
pub record Buffer : Type 0 where
  pub at : ℕ
  pub bytes : List ℕ

-- the two as one
abbrev pub buffer : ℕ → List ℕ → Buffer
buffer at bytes = record { at = at; bytes = bytes }

-- a text more after what was gathered, as far as there is room
unfoldable pub gathered : ℕ → List ℕ → List ℕ → List ℕ
gathered room before text = before ++ take (room - length before) text

-- a text over the front of bytes, and the place past it; where there are fewer bytes than the room asked for, nothing
abbrev pub in_front : ℕ → List ℕ → List ℕ → Buffer
in_front room text bytes = pick (ltb (length bytes) room) (buffer 0 bytes) (buffer (length text) (text ++ drop (length text) bytes))
