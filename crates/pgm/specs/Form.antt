-- Netpbm's binary PGM as #109 has it: `P5`, LF, width, space, height, LF, `255`, LF, then grey bytes row by row (SCOPE, Pictures).
use Rattle.std.specs.Prelude.{Bool, true, false, ◌&&◌, List, [], ◌∷◌, ◌++◌, ℕ, ◌+◌, ◌-◌, ◌*◌, eqb, leb, length, drop, get_or}
use Rattle.numbers.specs.Choice.{pick}
use Rattle.column.specs.Columns.{natural}
use Rattle.pgm.specs.declared.form.Number.{Number}
use Rattle.pgm.specs.declared.form.Size.{Size}

-- from 1 × 1 to 960 × 680, width and height each within its own bounds
unfoldable pub in_range : ℕ → ℕ → Bool
in_range w h = (leb 1 w && leb w 960) && (leb 1 h && leb h 680)

-- how many digits a number below 1,000 has
unfoldable pub digit_count : ℕ → ℕ
digit_count n = pick (leb 100 n) 3 (pick (leb 10 n) 2 1)

-- such a number in decimal, without leading zeros: a column just as wide as it has digits
abbrev pub decimal : ℕ → List ℕ
decimal n = natural (digit_count n) n

-- `P5`, LF
abbrev pub magic : List ℕ
magic = 80 ∷ 53 ∷ 10 ∷ []

-- width, space, height
abbrev pub size_text : ℕ → ℕ → List ℕ
size_text w h = decimal w ++ (32 ∷ []) ++ decimal h

-- LF, `255`, LF
abbrev pub maxval : List ℕ
maxval = 10 ∷ 50 ∷ 53 ∷ 53 ∷ 10 ∷ []

-- all that stands before the grey bytes: 11 to 15 bytes
unfoldable pub pgm_header : ℕ → ℕ → List ℕ
pgm_header w h = magic ++ size_text w h ++ maxval

-- bytes of the longest
abbrev pub header_bytes : ℕ
header_bytes = 15

-- the file of a picture: its header, and its pixels row by row from the top, a grey byte each
abbrev pub pgm_file : ℕ → ℕ → List ℕ → List ℕ
pgm_file w h pixels = pgm_header w h ++ pixels

-- ---- read: the numbers that stand where a header has them, and whether their header stands there. That this finds every file of the form
-- ---- and no other is shown in pgm_laws (`form_accepted`, `form_only`), whose words say nothing of the search.

-- 0 to 9 in ASCII
abbrev pub is_digit : ℕ → Bool
is_digit c = leb 48 c && leb c 57

-- a number and the place behind it, with the digit that stands there, if one does
unfoldable pub with_digit : List ℕ → Number → Number
with_digit f n =
    pick (is_digit (get_or f n.end 0))
    (record { value = 10 * n.value + (get_or f n.end 0 - 48); end = n.end + 1 }) n

-- the number that stands at a place of a file: its digits, at most three
unfoldable pub number_at : List ℕ → ℕ → Number
number_at f at = with_digit f (with_digit f (with_digit f (record { value = 0; end = at })))

-- the width stands behind `P5` and LF, and the height behind the byte after it
unfoldable pub size_in : List ℕ → Size
size_in f = record { width = (number_at f 3).value; height = (number_at f ((number_at f 3).end + 1)).value }

-- the width that stands in f
abbrev pub width_in : List ℕ → ℕ
width_in f = (size_in f).width

-- the height that stands in f
abbrev pub height_in : List ℕ → ℕ
height_in f = (size_in f).height

-- f starts with p
unfoldable pub starts_with : List ℕ → List ℕ → Bool
starts_with [] f = true
starts_with (c ∷ p) [] = false
starts_with (c ∷ p) (d ∷ f) = eqb c d && starts_with p f

-- a size in range, whose header f starts with
unfoldable pub is_header_of : ℕ → ℕ → List ℕ → Bool
is_header_of w h f = in_range w h && starts_with (pgm_header w h) f

-- the size that stands in f is such a one
abbrev pub is_header : List ℕ → Bool
is_header f = is_header_of (width_in f) (height_in f) f

-- what stands behind the header
abbrev pub pixels_in : List ℕ → List ℕ
pixels_in f = drop (length (pgm_header (width_in f) (height_in f))) f
