-- What bytes of RAM data leave of a state and of the two planes.
use Rattle.std.specs.Prelude.{ℕ, List, eqb}
use Rattle.numbers.specs.Choice.{pick}
use Rattle.panel.specs.End.{display_end}
use Rattle.device.specs.declared.Active.{Active}
use Rattle.device.specs.declared.Current.{Current}
use Rattle.device.specs.declared.Current.TheVariants as current
use Rattle.device.specs.declared.Ssd1677.{Ssd1677}
use Rattle.device.specs.Parts.{with_now, with_current, with_pointed}
use Rattle.device.specs.Kinds.{is_stream}
use Rattle.burst.specs.declared.Course.{Course}
use Rattle.burst.specs.declared.Reached.{Reached}
use Rattle.burst.specs.Running.{Ran, running}

-- what they go by
abbrev pub course_of : Ssd1677 → Course
course_of d =
    record {
      window = d.regs.window;
      entry = d.regs.entry;
      ends = display_end d.display;
      busy_until = d.bus.busy_until;
    }

-- where they begin
abbrev pub start_of : Ssd1677 → Active → Reached
start_of d a = record { latest = d.now; counter = d.regs.counter; received = a.received }

-- a command that so many bytes have come to
abbrev pub received_as : Active → ℕ → Active
received_as a received =
    record {
      command = a.command;
      kind = a.kind;
      received = received;
      read = a.read;
      extra_reported = a.extra_reported;
      range_reported = a.range_reported;
      nothing_reported = a.nothing_reported;
    }

-- the state with what they have changed
abbrev pub reached_by : Ssd1677 → Active → Reached → Ssd1677
reached_by d a s = with_pointed (with_now d s.latest) s.counter (with_current d.bus (current.Active (received_as a s.received)))

-- where the bytes of a command end, with the state and its plane
pub record Into : Type 0 where
  pub made : ℕ
  pub device : Ssd1677
  pub plane : List ℕ

-- the three as one
abbrev pub into : ℕ → Ssd1677 → List ℕ → Into
into made device plane = record { made = made; device = device; plane = plane }

-- what they leave, by how far they came
abbrev pub put_back : Ssd1677 → Active → Ran → Into
put_back d a r = into r.made (reached_by d a r.reached) r.plane

-- where the bytes end, with the state and both planes
pub record Bursted : Type 0 where
  pub made : ℕ
  pub device : Ssd1677
  pub black_white : List ℕ
  pub red : List ℕ

-- the four as one
abbrev pub bursted : ℕ → Ssd1677 → List ℕ → List ℕ → Bursted
bursted made device black_white red = record { made = made; device = device; black_white = black_white; red = red }

-- of n events by their kinds, times and values, the first of them at place i, the bytes of a command into its plane
unfoldable pub ran_into : List ℕ → List ℕ → List ℕ → ℕ → ℕ → Ssd1677 → Active → List ℕ → Into
ran_into kinds times values n i d a plane = put_back d a (running kinds times values (course_of d) n i (start_of d a) plane)

-- those of the current command: 0x24 writes the black-white plane, 0x26 the red one, and any other command none
module _ (kinds times values : List ℕ) (n i : ℕ) (d : Ssd1677) (black_white red : List ℕ) where
  -- the black-white plane is written
  abbrev pub intoBlackWhite : Into → Bursted
  intoBlackWhite r = bursted r.made r.device r.plane red

  -- the red one is
  abbrev pub intoRed : Into → Bursted
  intoRed r = bursted r.made r.device black_white r.plane

  -- by the current command
  unfoldable pub burstOf : Current → Bursted
  burstOf current.Idle = bursted i d black_white red
  burstOf current.Ignoring = bursted i d black_white red
  burstOf (current.Active a) =
      pick (is_stream a.kind)
      (pick (eqb a.command 0x24)
      (intoBlackWhite (ran_into kinds times values n i d a black_white))
      (intoRed (ran_into kinds times values n i d a red)))
      (bursted i d black_white red)
