-- The commands of the datasheet's Table 7-1, as mod.rs has them in `kind`: a row each, in the order of their numbers.
use Rattle.std.specs.Prelude.{ℕ, Bool, true, false, List, [], ◌∷◌, Option, Some, None}
use Rattle.numbers.specs.Rows.{TableRow, lookup}
use Rattle.device.specs.declared.Kind.{Kind}
use Rattle.device.specs.declared.Kind.TheVariants.{Write, Read, Unsupported, Reserved}
use Rattle.device.specs.declared.Params.TheVariants.{Exactly, Between, Stream}

-- a row: a command and its kind
abbrev pub row : ℕ → Kind → TableRow (Option Kind)
row command k = record { number = command; gives = Some k }

-- Table 7-1; 0x1A and 0x21 take one byte or two (docs/DIFFERENCES.md)
unfoldable pub rows : List (TableRow (Option Kind))
rows =
    row 0x01 (Write (Exactly 3)) ∷
    row 0x03 (Write (Exactly 1)) ∷
    row 0x04 (Write (Exactly 3)) ∷
    row 0x08 Unsupported ∷
    row 0x09 Unsupported ∷
    row 0x0A Unsupported ∷
    row 0x0C (Write (Exactly 5)) ∷
    row 0x10 (Write (Exactly 1)) ∷
    row 0x11 (Write (Exactly 1)) ∷
    row 0x12 (Write (Exactly 0)) ∷
    row 0x14 (Write (Exactly 1)) ∷
    row 0x15 (Write (Exactly 1)) ∷
    row 0x18 (Write (Exactly 1)) ∷
    row 0x1A (Write (Between 1 2)) ∷
    row 0x1B Read ∷
    row 0x1C Unsupported ∷
    row 0x20 (Write (Exactly 0)) ∷
    row 0x21 (Write (Between 1 2)) ∷
    row 0x22 (Write (Exactly 1)) ∷
    row 0x24 (Write Stream) ∷
    row 0x25 Unsupported ∷
    row 0x26 (Write Stream) ∷
    row 0x27 Read ∷
    row 0x28 (Write (Exactly 0)) ∷
    row 0x29 (Write (Exactly 1)) ∷
    row 0x2A Unsupported ∷
    row 0x2B (Write (Exactly 2)) ∷
    row 0x2C (Write (Exactly 1)) ∷
    row 0x2D Read ∷
    row 0x2E Read ∷
    row 0x2F Read ∷
    row 0x30 Unsupported ∷
    row 0x31 Unsupported ∷
    row 0x32 (Write (Exactly 105)) ∷
    row 0x34 Unsupported ∷
    row 0x35 Unsupported ∷
    row 0x36 Unsupported ∷
    row 0x37 (Write (Exactly 10)) ∷
    row 0x38 (Write (Exactly 10)) ∷
    row 0x39 Unsupported ∷
    row 0x3A Reserved ∷
    row 0x3B Reserved ∷
    row 0x3C (Write (Exactly 1)) ∷
    row 0x41 (Write (Exactly 1)) ∷
    row 0x44 (Write (Exactly 4)) ∷
    row 0x45 (Write (Exactly 4)) ∷
    row 0x46 (Write (Exactly 1)) ∷
    row 0x47 (Write (Exactly 1)) ∷
    row 0x4D Unsupported ∷
    row 0x4E (Write (Exactly 2)) ∷
    row 0x4F (Write (Exactly 2)) ∷
    row 0x7F (Write (Exactly 0)) ∷
    []

-- what Table 7-1 has for a command byte: its row's kind, and no command where there is no row
unfoldable pub kind_of : ℕ → Option Kind
kind_of command = lookup None command rows

-- the kind is one that the MCU reads
abbrev pub is_read : Option Kind → Bool
is_read None = false
is_read (Some (Write p)) = false
is_read (Some Read) = true
is_read (Some Unsupported) = false
is_read (Some Reserved) = false
