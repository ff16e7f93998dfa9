-- The names of the commands that the model does not carry out (datasheet Table 7-1, as mod.rs has them in `kind`).
use Rattle.std.specs.Prelude.{ℕ, ◌-◌, List, [], ◌∷◌, ◌++◌, length, replicate}
use Prim.Native.Char.{code}
use Prim.Native.String.{String, [] as end, ◌∷◌ as ◌then◌}
use Rattle.numbers.specs.Rows.{TableRow, lookup}
use Rattle.diagnostic.specs.declared.Name.{Name}

-- the bytes of a text of ASCII characters
unfoldable pub ascii : String → List ℕ
ascii end = []
ascii (c then s) = code c ∷ ascii s

-- a text in the 44 bytes of a name, zeros behind it
abbrev pub padded : List ℕ → Name
padded text = record { bytes = text ++ replicate (44 - length text) 0; length = length text }

-- a row: command and name
abbrev pub row : ℕ → String → TableRow (List ℕ)
row command name = record { number = command; gives = ascii name }

-- the thirteen unsupported commands
unfoldable pub names : List (TableRow (List ℕ))
names =
    row 0x08 "Initial Code Setting OTP Program" ∷
    row 0x09 "Write Register for Initial Code Setting" ∷
    row 0x0A "Read Register for Initial Code Setting" ∷
    row 0x1C "Write Command to External temperature sensor" ∷
    row 0x25 "Write RAM (Dithering)" ∷
    row 0x2A "Program VCOM OTP" ∷
    row 0x30 "Program WS OTP" ∷
    row 0x31 "Load WS OTP" ∷
    row 0x34 "CRC calculation" ∷
    row 0x35 "CRC Status Read" ∷
    row 0x36 "Program OTP selection" ∷
    row 0x39 "OTP program mode" ∷
    row 0x4D "Dithering engine Start/Stop" ∷
    []

-- the name of an unsupported command, and no text for any other
abbrev pub name_of : ℕ → Name
name_of command = padded (lookup [] command names)
