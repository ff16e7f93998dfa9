-- The lines of docs/replay-format.md.
use Rattle.std.specs.Prelude.{◌&&◌, List, [], ◌∷◌, ℕ, ◌+◌, ◌^◌, eqb, ltb, length, take, drop, get_or, Option, Some, None}
use Rattle.numbers.specs.Choice.{pick}
use Rattle.numbers.specs.Rows.{TableRow, lookup}
use Rattle.column.specs.Reading.{read_of}
use Rattle.event.specs.declared.Event.TheVariants.{Command, Data, Read, Reset, Advance}
use Rattle.line.specs.Fields.{bits_of, state_bits_of, longest_of}
use Rattle.line.specs.declared.columns.Columns.{Columns}
use Rattle.line.specs.declared.Line.{Line}
use Rattle.line.specs.declared.Line.TheVariants.{Event, Query, Dump, Repeat, Ambient, Case, Field, Otp, Start, TakeDiagnostics, Lent, State, Picture, Counts}

-- three columns that each hold a number
unfoldable pub three_of : Option ℕ → Option ℕ → Option ℕ → Option Columns
three_of (Some number) (Some kind) (Some value) = Some (record { number = number; kind = kind; value = value })
three_of (Some number) (Some kind) None = None
three_of (Some number) None value = None
three_of None kind value = None

-- 26 bytes and LF: NUMBER in 20 columns, KIND in 2, VALUE in 4
unfoldable pub columns_of : List ℕ → Option Columns
columns_of bytes =
    pick (eqb (length bytes) 27 && eqb (get_or bytes 26 0) 10)
    (three_of (read_of (take 20 bytes)) (read_of (take 2 (drop 20 bytes))) (read_of (take 4 (drop 22 bytes))))
    None

-- the line where a number is below a limit, else none
unfoldable pub within : ℕ → ℕ → Option Line → Option Line
within n limit line = pick (ltb n limit) line None

-- a row of the table
abbrev pub row : ℕ → Option Line → TableRow (Option Line)
row kind line = record { number = kind; gives = line }

-- the format's table, kind by kind; "0" in it is a number below 1, "byte" one below 256, a truth value one below 2
unfoldable pub rows : ℕ → ℕ → List (TableRow (Option Line))
rows number value =
    row 1 (within value 256 (Some (Event (Command number value)))) ∷
    row 2 (within value 256 (Some (Event (Data number value)))) ∷
    row 3 (within value 1 (Some (Event (Read number)))) ∷
    row 4 (within value 2 (Some (Event (Reset number (eqb value 1))))) ∷
    row 5 (within value 1 (Some (Event (Advance number)))) ∷
    row 6 (within value 1 (Some (Query number))) ∷
    row 7 (within number 1 (within value 1 (Some Dump))) ∷
    row 8 (within value 1 (Some (Repeat number))) ∷
    row 9 (within value 1 (within number 65536 (Some (Ambient number)))) ∷
    row 10 (within number 1 (within value 10000 (Some (Case value)))) ∷
    row 11 (within value 54 (within number (2 ^ bits_of value) (Some (Field value number)))) ∷
    row 12 (within value 10000 (within number 256 (Some (Otp value number)))) ∷
    row 13 (within number 1 (within value 1 (Some Start))) ∷
    row 14 (within number 1 (within value 1 (Some TakeDiagnostics))) ∷
    row 15 (within value 9 (within number (longest_of value + 1) (Some (Lent value number)))) ∷
    row 16 (within value 32 (within number (2 ^ state_bits_of value) (Some (State value number)))) ∷
    row 17 (within number 1 (within value 1 (Some Picture))) ∷
    row 18 (within number 1 (within value 1 (Some Counts))) ∷
    []

-- what three numbers ask for
unfoldable pub listed_as : ℕ → ℕ → ℕ → Option Line
listed_as number kind value = lookup None kind (rows number value)

-- what columns ask for
abbrev pub asked_of : Option Columns → Option Line
asked_of (Some columns) = listed_as columns.number columns.kind columns.value
asked_of None = None

-- what a line asks for
unfoldable pub line_of : List ℕ → Option Line
line_of bytes = asked_of (columns_of bytes)
