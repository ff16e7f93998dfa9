-- A byte that the MCU reads, once the clock has moved (mod.rs, `read_data` and `read_byte`).
use Rattle.std.specs.Prelude.{ℕ, Bool, true, List, eqb, Option, Some, None}
use Rattle.numbers.specs.Choice.{pick}
use Rattle.ram.specs.declared.Plane.{Plane}
use Rattle.ram.specs.declared.Plane.TheVariants.{BlackWhite, Red}
use Rattle.ram.specs.Plane.{plane_of, read_at}
use Rattle.diagnostic.specs.declared.DiagnosticKind.TheVariants.{NothingToRead}
use Rattle.device.specs.declared.Active.{Active}
use Rattle.device.specs.declared.Current.{Current}
use Rattle.device.specs.declared.Current.TheVariants as current
use Rattle.device.specs.declared.Kind.{Kind}
use Rattle.device.specs.declared.Kind.TheVariants.{Write, Read, Unsupported, Reserved}
use Rattle.device.specs.declared.Power.{Power}
use Rattle.device.specs.declared.Power.TheVariants.{Running, Asleep, InReset}
use Rattle.device.specs.declared.Ssd1677.{Ssd1677}
use Rattle.world.specs.World.{WithLog, with_log}
use Rattle.registers.specs.Read.{read_register}
use Rattle.busy.specs.Busy.{busy_at}
use Rattle.chip.specs.Report.{logged}
use Rattle.data.specs.Data.{one_more, current_set, counter_stepped, out_of_range}

-- the state and the log with the byte read, or none: the line floats
pub record WithByte : Type 0 where
  pub left : WithLog
  pub byte : Option ℕ

-- the two as one
abbrev pub with_byte : WithLog → Option ℕ → WithByte
with_byte k b = record { left = k; byte = b }

-- the command with one read more, and what it has reported
abbrev pub one_read_more : Active → Bool → Bool → Active
one_read_more a range nothing =
    record {
      command = a.command;
      kind = a.kind;
      received = a.received;
      read = one_more a.read;
      extra_reported = a.extra_reported;
      range_reported = range;
      nothing_reported = nothing;
    }

-- a command of which a byte more was read
abbrev pub reading_on : Active → Bool → Bool → WithLog → WithLog
reading_on a range nothing k = with_log (current_set (current.Active (one_read_more a range nothing)) k.device) k.log

-- 38 for a command that has nothing to read, once a command
unfoldable pub nothing_read : Active → WithLog → WithByte
nothing_read a k =
    with_byte (reading_on a a.range_reported true (pick a.nothing_reported k (logged (NothingToRead a.command) k))) None

-- the registers' bytes: 0x1B, 0x2D, 0x2E and 0x2F, which says whether the controller is busy at the clock
unfoldable pub register_read : Active → WithLog → WithByte
register_read a k =
    let d = k.device in
    with_byte (reading_on a a.range_reported a.nothing_reported k)
    (read_register d.regs d.status (busy_at d.bus d.now) a.command a.read)

-- the plane that 0x41 chose
abbrev pub chosen : Ssd1677 → Plane
chosen d = pick d.regs.read_ram_red Red BlackWhite

-- the counter steps
abbrev pub moved : WithLog → WithLog
moved k = with_log (counter_stepped k.device) k.log

-- a byte, or 31; the counter steps in either case
unfoldable pub ram_found : Active → WithLog → Option ℕ → WithByte
ram_found a k (Some b) =
    with_byte (reading_on a a.range_reported a.nothing_reported (moved k)) (Some b)
ram_found a k None = with_byte (reading_on a true a.nothing_reported (moved (out_of_range a k))) None

-- 0x27: 0x00 first with the counter unmoved, then RAM at the counter (SCOPE, Commands)
unfoldable pub ram_read : List ℕ → List ℕ → Active → WithLog → WithByte
ram_read black_white red a k =
    pick (eqb a.read 0)
    (with_byte (reading_on a a.range_reported a.nothing_reported k) (Some 0))
    (ram_found a k (read_at (plane_of black_white red (chosen k.device)) k.device.regs.counter))

-- a read command's byte
unfoldable pub byte_read : List ℕ → List ℕ → Active → WithLog → WithByte
byte_read black_white red a k = pick (eqb a.command 0x27) (ram_read black_white red a k) (register_read a k)

-- by what the active command is
unfoldable pub read_by_kind : List ℕ → List ℕ → Active → WithLog → Kind → WithByte
read_by_kind black_white red a k Read = byte_read black_white red a k
read_by_kind black_white red a k (Write params) = nothing_read a k
read_by_kind black_white red a k Unsupported = nothing_read a k
read_by_kind black_white red a k Reserved = nothing_read a k

-- with no active command nothing is driven, and nothing is reported
unfoldable pub by_current : List ℕ → List ℕ → WithLog → Current → WithByte
by_current black_white red k current.Idle = with_byte k None
by_current black_white red k current.Ignoring = with_byte k None
by_current black_white red k (current.Active a) = read_by_kind black_white red a k a.kind

-- nor asleep, nor in reset
unfoldable pub read_taken : List ℕ → List ℕ → WithLog → Power → WithByte
read_taken black_white red k Running = by_current black_white red k k.device.bus.current
read_taken black_white red k Asleep = with_byte k None
read_taken black_white red k InReset = with_byte k None
