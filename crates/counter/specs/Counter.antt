-- The RAM's window, data-entry mode and address counter (datasheet §8.2–8.5; SCOPE, RAM).
use Rattle.std.specs.Prelude.{Bool, true, false, ◌&&◌, ℕ, ◌+◌, ◌-◌, ◌*◌, ◌/◌, min, max, ltb, leb, Option, Some, None}
use Rattle.numbers.specs.Choice.{pick, bit_of}
use Rattle.counter.specs.declared.Window.{Window}
use Rattle.counter.specs.declared.Counter.{Counter}
use Rattle.counter.specs.declared.Entry.{Entry}

-- the window after reset: the whole RAM, 000h–3BFh by 000h–2A7h (ram.rs, `Window::RESET`)
abbrev pub reset_window : Window
reset_window = record { x_start = 0; x_end = 959; y_start = 0; y_end = 679 }

-- the data-entry mode after reset: 3, both increment and x moves first (datasheet; SCOPE, RAM)
abbrev pub reset_entry : Entry
reset_entry = record { 0 = 3 }

-- where a step along an axis leads, towards the window's end: at or past the end there is none, otherwise it is one more or one less (§8.2–8.5)
unfoldable pub axis_step : Bool → ℕ → ℕ → Option ℕ
axis_step true at end = pick (ltb at end) (Some (at + 1)) None
axis_step false at end = pick (ltb end at) (Some (at - 1)) None

-- the counter's step in x, in bytes of eight pixels; ID0, bit 0 of the mode, says whether x increments (§8.2–8.5)
abbrev pub byte_step : Counter → Window → Entry → Option ℕ
byte_step c w e = axis_step (bit_of e.0 0) (c.x / 8) (w.x_end / 8)

-- the counter's step in y, in rows; ID1, bit 1 of the mode, says whether y increments (§8.2–8.5)
abbrev pub row_step : Counter → Window → Entry → Option ℕ
row_step c w e = axis_step (bit_of e.0 1) c.y w.y_end

-- the row after a step in y: past the end the window's start (§8.2–8.5)
abbrev pub row_after : Option ℕ → ℕ → ℕ
row_after (Some row) start = row
row_after None start = start

-- the pixel after a step in x: the first of the byte, past the end the window's start, whose low three bits stay (SCOPE, RAM)
abbrev pub pixel_after : Option ℕ → ℕ → ℕ
pixel_after (Some byte) start = byte * 8
pixel_after None start = start

-- AM 0, x moves first: y steps when x returns to its start (§8.2–8.5)
abbrev pub x_first : Counter → Window → Option ℕ → Option ℕ → Counter
x_first c w (Some byte) inY = record { x = byte * 8; y = c.y }
x_first c w None inY = record { x = w.x_start; y = row_after inY w.y_start }

-- AM 1, y moves first: x steps when y returns to its start (§8.2–8.5)
abbrev pub y_first : Counter → Window → Option ℕ → Option ℕ → Counter
y_first c w inX (Some row) = record { x = c.x; y = row }
y_first c w inX None = record { x = pixel_after inX w.x_start; y = w.y_start }

-- where the counter goes after a byte of data; AM, bit 2 of the mode, says which axis moves first (§8.2–8.5)
unfoldable pub advanced_of : Counter → Window → Entry → Counter
advanced_of c w e =
    pick (bit_of e.0 2)
    (y_first c w (byte_step c w e) (row_step c w e))
    (x_first c w (byte_step c w e) (row_step c w e))

-- between a and b, whatever their order (ram.rs, `within`)
unfoldable pub between : ℕ → ℕ → ℕ → Bool
between at a b = leb (min a b) at && leb at (max a b)

-- the counter's byte lies in the window: columns are x / 8 (SCOPE, RAM)
unfoldable pub within_of : Counter → Window → Bool
within_of c w = between (c.x / 8) (w.x_start / 8) (w.x_end / 8) && between c.y w.y_start w.y_end
