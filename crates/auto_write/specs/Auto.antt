-- The auto write of 0x46 and 0x47 over a plane, 680 rows of 120 bytes (datasheet Table 7-1).
use Rattle.std.specs.Prelude.{Bool, List, [], ◌∷◌, ◌++◌, ℕ, ◌+◌, ◌*◌, ◌/◌, ◌%◌, eqb, length, get_or, drop}
use Rattle.numbers.specs.Choice.{pick, bit_of}
use Rattle.numbers.specs.Lists.{tab}

-- the heights of an auto write's steps in rows, by bits 6 to 4 of its parameter (Table 7-1)
abbrev pub heights : List ℕ
heights = 8 ∷ 16 ∷ 32 ∷ 64 ∷ 128 ∷ 256 ∷ 512 ∷ 680 ∷ []

-- the widths of its steps in pixels, by bits 2 to 0 (Table 7-1)
abbrev pub widths : List ℕ
widths = 8 ∷ 16 ∷ 32 ∷ 64 ∷ 128 ∷ 256 ∷ 512 ∷ 960 ∷ []

-- the height of a step in rows, for a parameter (Table 7-1)
unfoldable pub height_of : ℕ → ℕ
height_of parameter = get_or heights (parameter / 16 % 8) 0

-- the width of a step in bytes of eight pixels, for a parameter (Table 7-1)
unfoldable pub width_of : ℕ → ℕ
width_of parameter = get_or widths (parameter % 8) 0 / 8

-- the byte of a step, by how many steps it is from the first: they alternate between the first value and the other (Table 7-1)
unfoldable pub step_byte : Bool → ℕ → ℕ
step_byte first steps = pick (eqb (steps % 2) 0) (pick first 255 0) (pick first 0 255)

-- what an auto write puts at a place, of row i / 120 and column i % 120; bit 7 is the first value (Table 7-1)
unfoldable pub auto_byte : ℕ → ℕ → ℕ
auto_byte parameter i = step_byte (bit_of parameter 7) (i / 120 / height_of parameter + i % 120 / width_of parameter)

-- how many bytes the whole rows of a list have, 120 to a row: of a plane all 81,600 (§6.5)
abbrev pub whole_rows : List ℕ → ℕ
whole_rows p = length p / 120 * 120

-- the plane after an auto write: every whole row by place, and what is left of a row that is not whole as it was (ram.rs, `auto_write`)
unfoldable pub auto_written : ℕ → List ℕ → List ℕ
auto_written parameter p = tab (whole_rows p) (auto_byte parameter) ++ drop (whole_rows p) p
