-- A data byte, once the clock has moved (mod.rs, `write_data` and `write_ram`).
use Rattle.std.specs.Prelude.{ℕ, ◌+◌, min, Bool, true, eqb, ltb}
use Rattle.numbers.specs.Choice.{pick}
use Rattle.numbers.specs.Saturation.{largest}
use Rattle.ram.specs.declared.Plane.{Plane}
use Rattle.ram.specs.declared.Plane.TheVariants.{BlackWhite, Red}
use Rattle.counter.specs.Counter.{advanced_of}
use Rattle.ram.specs.Plane.{plane_of, wrote_at, written_at}
use Rattle.diagnostic.specs.declared.DiagnosticKind.TheVariants.{DataWithoutCommand, ExtraData, RamOutOfRange}
use Rattle.device.specs.declared.Active.{Active}
use Rattle.device.specs.declared.Current.{Current}
use Rattle.device.specs.declared.Current.TheVariants as current
use Rattle.device.specs.declared.Kind.{Kind}
use Rattle.device.specs.declared.Kind.TheVariants.{Write, Read, Unsupported, Reserved}
use Rattle.device.specs.declared.Params.TheVariants.{Exactly, Between, Stream}
use Rattle.device.specs.declared.Power.{Power}
use Rattle.device.specs.declared.Power.TheVariants.{Running, Asleep, InReset}
use Rattle.device.specs.declared.Ssd1677.{Ssd1677}
use Rattle.device.specs.Parts.{with_bus, with_current, with_counter, with_regs}
use Rattle.world.specs.World.{WithLog, WithRam, with_ram, on, device_in_ram, log_in_ram}
use Rattle.chip.specs.Report.{logged}
use Rattle.parameter.specs.Parameter.{parameter_taken}

-- one more of a command's bytes or reads, the count stopping at 65,535 (mod.rs)
abbrev pub one_more : ℕ → ℕ
one_more count = min (count + 1) (largest 16)

-- the command with one byte more, and what it has reported
abbrev pub one_byte_more : Active → Bool → Bool → Active
one_byte_more a extra range =
    record {
      command = a.command;
      kind = a.kind;
      received = one_more a.received;
      read = a.read;
      extra_reported = extra;
      range_reported = range;
      nothing_reported = a.nothing_reported;
    }

-- the current command
abbrev pub current_set : Current → Ssd1677 → Ssd1677
current_set c d = with_bus d (with_current d.bus c)

-- a command that a byte more has come to
abbrev pub writing_on : Active → Bool → Bool → WithRam → WithRam
writing_on a extra range w = on device_in_ram (current_set (current.Active (one_byte_more a extra range))) w

-- 25 for more bytes than the command takes, once a command
unfoldable pub surplus : Active → WithRam → WithRam
surplus a w =
    writing_on a true a.range_reported (pick a.extra_reported w (on log_in_ram (logged (ExtraData a.command)) w))

-- a byte of a command that takes so many at most
unfoldable pub at_most : ℕ → ℕ → Active → WithRam → WithRam
at_most most byte a w =
    pick (ltb a.received most)
    (writing_on a a.extra_reported a.range_reported (parameter_taken a.command a.received byte w))
    (surplus a w)

-- 0x24 writes the black-white plane, 0x26 the red one
abbrev pub plane_for : ℕ → Plane
plane_for command = pick (eqb command 0x24) BlackWhite Red

-- a byte written at the counter of a plane
abbrev pub plane_written : Plane → ℕ → WithRam → WithRam
plane_written BlackWhite byte w = with_ram w.device (written_at w.black_white w.device.regs.counter byte) w.red w.log
plane_written Red byte w = with_ram w.device w.black_white (written_at w.red w.device.regs.counter byte) w.log

-- the plane has the counter's byte
abbrev pub is_inside : Plane → WithRam → Bool
is_inside plane w = wrote_at (plane_of w.black_white w.red plane) w.device.regs.counter

-- the counter steps, by the window and the data-entry mode
abbrev pub counter_stepped : Ssd1677 → Ssd1677
counter_stepped d = with_regs d (with_counter d.regs (advanced_of d.regs.counter d.regs.window d.regs.entry))

-- 31 past the RAM, once a command
unfoldable pub out_of_range : Active → WithLog → WithLog
out_of_range a k =
    pick a.range_reported k (logged (RamOutOfRange a.command k.device.regs.counter.x k.device.regs.counter.y) k)

-- a byte of 0x24 or 0x26: put at the counter, or 31; the counter steps in either case
unfoldable pub ram_written : ℕ → Active → WithRam → WithRam
ram_written byte a w =
    pick (is_inside (plane_for a.command) w)
    (writing_on a a.extra_reported a.range_reported (on device_in_ram counter_stepped (plane_written (plane_for a.command) byte w)))
    (writing_on a a.extra_reported true (on device_in_ram counter_stepped (on log_in_ram (out_of_range a) w)))

-- by what the active command is
unfoldable pub data_by_kind : ℕ → Active → WithRam → Kind → WithRam
data_by_kind byte a w (Write (Exactly count)) = at_most count byte a w
data_by_kind byte a w (Write (Between least most)) = at_most most byte a w
data_by_kind byte a w (Write Stream) = ram_written byte a w
data_by_kind byte a w Read = surplus a w
data_by_kind byte a w Unsupported = surplus a w
data_by_kind byte a w Reserved = surplus a w

-- 24 for a byte with no command before it, of a chip that runs
unfoldable pub unasked : ℕ → WithRam → Power → WithRam
unasked byte w Running = on log_in_ram (logged (DataWithoutCommand byte)) w
unasked byte w Asleep = w
unasked byte w InReset = w

-- by the command that the byte belongs to; 24 comes once, since later bytes are ignored
unfoldable pub data_taken : ℕ → WithRam → Current → WithRam
data_taken byte w current.Idle = on device_in_ram (current_set current.Ignoring) (unasked byte w w.device.bus.power)
data_taken byte w current.Ignoring = w
data_taken byte w (current.Active a) = data_by_kind byte a w a.kind
