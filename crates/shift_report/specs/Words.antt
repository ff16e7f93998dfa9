-- The words of `sensitivity` for a voltage and a code (SCOPE, Sensitivity), in ASCII.
use Rattle.std.specs.Prelude.{◌&&◌, List, [], ◌∷◌, ℕ, ◌+◌, ◌-◌, ◌*◌, eqb, leb, length, get_or, Option, Some, None}
use Rattle.numbers.specs.Choice.{pick}
use Rattle.column.specs.Reading.{same}
use Rattle.voltage_shift.specs.declared.DrivingVoltage.TheVariants.{Vsh1, Vsh2, Vsl}
use Rattle.voltage_shift.specs.declared.DrivingVoltage.{DrivingVoltage}

-- "vsh1", "vsh2", "vsl"
unfoldable pub voltage_word : List ℕ → Option DrivingVoltage
voltage_word word =
    pick (same word (118 ∷ 115 ∷ 104 ∷ 49 ∷ [])) (Some Vsh1)
    (pick (same word (118 ∷ 115 ∷ 104 ∷ 50 ∷ [])) (Some Vsh2)
    (pick (same word (118 ∷ 115 ∷ 108 ∷ [])) (Some Vsl)
    None))

-- what a hexadecimal digit of either case counts
unfoldable pub hex_value : ℕ → Option ℕ
hex_value c =
    pick (leb 48 c && leb c 57) (Some (c - 48))
    (pick (leb 65 c && leb c 70) (Some (c - 55))
    (pick (leb 97 c && leb c 102) (Some (c - 87))
    None))

-- the byte that two digits write
abbrev pub hex_byte : Option ℕ → Option ℕ → Option ℕ
hex_byte None low = None
hex_byte (Some high) None = None
hex_byte (Some high) (Some low) = Some (16 * high + low)

-- "0x" and two hexadecimal digits: the byte that they write
unfoldable pub code_word : List ℕ → Option ℕ
code_word w =
    pick (eqb (length w) 4 && eqb (get_or w 0 0) 48 && eqb (get_or w 1 0) 120) (hex_byte (hex_value (get_or w 2 0)) (hex_value (get_or w 3 0))) None
