-- The events by their numbers (docs/replay-format.md, kinds 1 to 5).
use Rattle.std.specs.Prelude.{not, List, [], ◌∷◌, ℕ, eqb}
use Rattle.numbers.specs.Rows.{TableRow, lookup}
use Rattle.event.specs.declared.Event.{Event}
use Rattle.event.specs.declared.Event.TheVariants.{Command, Data, Read, Reset, Advance}

-- a row of the table
abbrev pub row : ℕ → Event → TableRow Event
row kind event = record { number = kind; gives = event }

-- the kinds 1 to 4
abbrev pub rows : ℕ → ℕ → List (TableRow Event)
rows time value =
    row 1 (Command time value) ∷
    row 2 (Data time value) ∷
    row 3 (Read time) ∷
    row 4 (Reset time (not (eqb value 0))) ∷
    []

-- the event of a kind's number; any other moves the clock alone
unfoldable pub event_of : ℕ → ℕ → ℕ → Event
event_of kind time value = lookup (Advance time) kind (rows time value)
