-- The widths of fields and the lengths of buffers (docs/replay-format.md, "Configuration fields" and "Lines of the port alone").
use Rattle.std.specs.Prelude.{Bool, false, ◌||◌, List, [], ◌∷◌, ℕ, eqb, leb, ltb}
use Rattle.numbers.specs.Choice.{pick}

-- n is one of the list
abbrev pub among : ℕ → List ℕ → Bool
among n [] = false
among n (m ∷ ms) = eqb n m || among n ms

-- truth values and provenances one bit; 16 bits for 0 to 2, 39 and 41; 32 for VCI, 42, and the frequency, 53; 8 for the grey, 10, and the user ID, from 43 on;
-- 64 for the rest
unfoldable pub bits_of : ℕ → ℕ
bits_of field =
    pick (among field (3 ∷ 4 ∷ 5 ∷ 6 ∷ 7 ∷ 9 ∷ 11 ∷ 38 ∷ 40 ∷ [])) 1
    (pick (among field (0 ∷ 1 ∷ 2 ∷ 39 ∷ 41 ∷ [])) 16
    (pick (among field (42 ∷ 53 ∷ [])) 32
    (pick (eqb field 10 || leb 43 field) 8 64)))

-- of a state's fields: 16 bits for 0 to 11, 8 for entry and command, 12 and 13, 64 for swing and periods, 14 to 30, 32 for the frequency, 31
unfoldable pub state_bits_of : ℕ → ℕ
state_bits_of field = pick (ltb field 12) 16 (pick (ltb field 14) 8 (pick (ltb field 31) 64 32))

-- the longest that each buffer is lent: states, LUTs and pixels, 0 to 2; planes, 3 and 4; gates, 5; log, 6; table, 7; counts, 8
unfoldable pub longest_of : ℕ → ℕ
longest_of buffer =
    pick (ltb buffer 3) 652800
    (pick (ltb buffer 5) 81601 (pick (ltb buffer 6) 680 (pick (ltb buffer 7) 16385 (pick (ltb buffer 8) 10000 257))))
