-- A run of data bytes into a plane (datasheet §8.2–8.5).
use Rattle.std.specs.Prelude.{List, ℕ, zero, suc, get_or}
use Rattle.counter.specs.declared.Counter.{Counter}
use Rattle.counter.specs.declared.Window.{Window}
use Rattle.counter.specs.declared.Entry.{Entry}
use Rattle.counter.specs.Counter.{advanced_of}
use Rattle.ram.specs.Plane.{written_at}

-- the counter and the plane
pub record Run : Type 0 where
  pub counter : Counter
  pub plane : List ℕ

-- the two as one
abbrev pub run : Counter → List ℕ → Run
run counter plane = record { counter = counter; plane = plane }

-- a byte written at the counter, which then moves on
abbrev pub ran_one : Window → Entry → ℕ → Run → Run
ran_one w e byte r = run (advanced_of r.counter w e) (written_at r.plane r.counter byte)

-- the first n bytes of a list, one after the other
unfoldable pub ran_over : Window → Entry → List ℕ → ℕ → Run → Run
ran_over w e bytes zero r = r
ran_over w e bytes (suc n) r = ran_one w e (get_or bytes n 0) (ran_over w e bytes n r)

-- a counter of two numbers, x and y
abbrev pub counter_of : List ℕ → Counter
counter_of l = record { x = get_or l 0 0; y = get_or l 1 0 }

-- a window of four, as 0x44 and 0x45 have them
abbrev pub window_of : List ℕ → Window
window_of l = record { x_start = get_or l 0 0; x_end = get_or l 1 0; y_start = get_or l 2 0; y_end = get_or l 3 0 }

-- a data-entry mode
abbrev pub entry_of : ℕ → Entry
entry_of mode = record { 0 = mode }
