-- A read leaves a record that tells what the LUT register holds. Assumes nothing.
use Rattle.std.specs.Prelude.{Option, Some, None}
use Prim.Native.Nat.{ℕ}
use mathlib.Core.List.{List}
use lib.Dec.{eqb}
use Rattle.ram.specs.Plane.{plane_of, read_at}
use Rattle.diagnostic.specs.declared.DiagnosticKind.TheVariants.{NothingToRead}
use Rattle.device.specs.declared.Active.{Active}
use Rattle.device.specs.declared.Current.{Current}
use Rattle.device.specs.declared.Current.TheVariants as current
use Rattle.device.specs.declared.Kind.{Kind}
use Rattle.device.specs.declared.Kind.TheVariants.{Write, Read, Unsupported, Reserved}
use Rattle.device.specs.declared.Power.{Power}
use Rattle.device.specs.declared.Power.TheVariants.{Running, Asleep, InReset}
use Rattle.world.specs.World.{WithLog}
use Rattle.chip.specs.Report.{logged}
use Rattle.stages_laws.proofs.Kept.{either}
use Rattle.reading.specs.Reading.{WithByte, with_byte, reading_on, nothing_read, register_read, chosen, ram_found, ram_read, byte_read, read_by_kind, by_current, read_taken}
use Rattle.record_laws.proofs.Data.{RecordedLog, out_recorded}

module _ (otp : List ℕ) where
  -- of what a read leaves
  abbrev RecordedRead : WithByte → Type 0
  RecordedRead r = RecordedLog otp r.left

  module _ (a : Active) (k : WithLog) (h : RecordedLog otp k) where
    nothing_recorded : RecordedRead (nothing_read a k)
    unfolding nothing_read logged
    nothing_recorded = either (RecordedLog otp) a.nothing_reported k (logged (NothingToRead a.command) k) h h

    register_read_recorded : RecordedRead (register_read a k)
    unfolding register_read
    register_read_recorded = h

    found_recorded : (b : Option ℕ) → RecordedRead (ram_found a k b)
    unfolding ram_found
    found_recorded (Some b) = h
    found_recorded None = out_recorded otp a k h

    module _ (black_white red : List ℕ) where
      -- what the RAM has at the counter
      abbrev there : Option ℕ
      there = read_at (plane_of black_white red (chosen k.device)) k.device.regs.counter

      ram_read_recorded : RecordedRead (ram_read black_white red a k)
      unfolding ram_read
      ram_read_recorded =
          either RecordedRead (eqb a.read 0) (with_byte (reading_on a a.range_reported a.nothing_reported k) (Some 0)) (ram_found a k there) h
          (found_recorded there)

      byte_recorded : RecordedRead (byte_read black_white red a k)
      unfolding byte_read
      byte_recorded = either RecordedRead (eqb a.command 0x27) (ram_read black_white red a k) (register_read a k) ram_read_recorded register_read_recorded

      read_kind_recorded : (kind : Kind) → RecordedRead (read_by_kind black_white red a k kind)
      unfolding read_by_kind
      read_kind_recorded Read = byte_recorded
      read_kind_recorded (Write params) = nothing_recorded
      read_kind_recorded Unsupported = nothing_recorded
      read_kind_recorded Reserved = nothing_recorded

  module _ (black_white red : List ℕ) (k : WithLog) (h : RecordedLog otp k) where
    current_recorded : (c : Current) → RecordedRead (by_current black_white red k c)
    unfolding by_current
    current_recorded current.Idle = h
    current_recorded current.Ignoring = h
    current_recorded (current.Active a) = read_kind_recorded a k h black_white red a.kind

    pub read_recorded : (power : Power) → RecordedRead (read_taken black_white red k power)
    unfolding read_taken
    read_recorded Running = current_recorded k.device.bus.current
    read_recorded Asleep = h
    read_recorded InReset = h
