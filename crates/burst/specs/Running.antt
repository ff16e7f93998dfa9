-- Bytes of RAM data one after the other, up to the first event that is more than such a byte (mod.rs, `write_data` and `write_ram`).
use Rattle.std.specs.Prelude.{ℕ, zero, suc, ◌+◌, max, Bool, ◌&&◌, List, eqb, get_or, Option, Some, None}
use Rattle.numbers.specs.Choice.{pick}
use Rattle.counter.specs.Counter.{advanced_of}
use Rattle.ram.specs.Plane.{wrote_at, written_at}
use Rattle.moment.specs.Moments.{quiet_at}
use Rattle.data.specs.Data.{one_more}
use Rattle.burst.specs.declared.Course.{Course}
use Rattle.burst.specs.declared.Reached.{Reached}

-- the event is a data byte (docs/replay-format.md, kind 2), nothing else comes about at its time, and the plane has the counter's byte
abbrev pub takes : Course → ℕ → ℕ → Reached → List ℕ → Bool
takes c kind time s plane = (eqb kind 2 && quiet_at c.ends c.busy_until (max s.latest time)) && wrote_at plane s.counter

-- after the byte: the later clock, the counter's step, and one byte more
abbrev pub onward : Course → ℕ → Reached → Reached
onward c time s =
    record {
      latest = max s.latest time;
      counter = advanced_of s.counter c.window c.entry;
      received = one_more s.received;
    }

-- what an event does where it is such a byte; another does nothing here
pub record ByteStep : Type 0 where
  pub done : Bool
  pub reached : Reached
  pub plane : List ℕ

-- the three as one
abbrev pub byte_step : Bool → Reached → List ℕ → ByteStep
byte_step done reached plane = record { done = done; reached = reached; plane = plane }

-- how far the bytes have come, after one or where there was none
abbrev pub reached_in : Reached → Option Reached → Reached
reached_in s (Some onwards) = onwards
reached_in s None = s

-- one event
abbrev pub taking : Course → ℕ → ℕ → ℕ → Reached → List ℕ → ByteStep
taking c kind time byte s plane =
    byte_step (takes c kind time s plane)
    (pick (takes c kind time s plane) (onward c time s) s)
    (pick (takes c kind time s plane) (written_at plane s.counter byte) plane)

-- where the bytes end: the place of the first event that is none, how far they have come, and the plane
pub record Ran : Type 0 where
  pub made : ℕ
  pub reached : Reached
  pub plane : List ℕ

-- the three as one
abbrev pub ran : ℕ → Reached → List ℕ → Ran
ran made reached plane = record { made = made; reached = reached; plane = plane }

-- of n events by their kinds, times and values, the first of them at place i, those before the first that is no such byte
unfoldable pub running : List ℕ → List ℕ → List ℕ → Course → ℕ → ℕ → Reached → List ℕ → Ran
running kinds times values c zero i s plane = ran i s plane
running kinds times values c (suc n) i s plane =
    pick (takes c (get_or kinds i 0) (get_or times i 0) s plane)
    (running kinds times values c n (i + 1) (onward c (get_or times i 0) s) (written_at plane s.counter (get_or values i 0)))
    (ran i s plane)
