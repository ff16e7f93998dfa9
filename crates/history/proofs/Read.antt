-- A read: what it does to the core does not look at the glass, the journal or the log, and it leaves the glass. Assumes nothing.
use Rattle.std.specs.Prelude.{Option, Some, None}
use Prim.Native.Nat.{ℕ}
use mathlib.Core.Path.{refl}
use mathlib.Core.Bool.{Bool, true, false}
use mathlib.Core.List.{List}
use lib.Dec.{eqb}
use Rattle.numbers.specs.Choice.{pick}
use Rattle.ram.specs.Plane.{plane_of, read_at}
use Rattle.diagnostic.specs.declared.DiagnosticKind.TheVariants.{NothingToRead}
use Rattle.device.specs.declared.Active.{Active}
use Rattle.device.specs.declared.Current.{Current}
use Rattle.device.specs.declared.Current.TheVariants as current
use Rattle.device.specs.declared.Kind.{Kind}
use Rattle.device.specs.declared.Kind.TheVariants.{Write, Read, Unsupported, Reserved}
use Rattle.device.specs.declared.Power.{Power}
use Rattle.device.specs.declared.Power.TheVariants.{Running, Asleep, InReset}
use Rattle.world.specs.World.{WithLog}
use Rattle.chip.specs.Report.{logged}
use Rattle.data.specs.Data.{out_of_range}
use Rattle.reading.specs.Reading.{WithByte, with_byte, reading_on, nothing_read, register_read, chosen, moved, ram_found, ram_read, byte_read, read_by_kind, by_current, read_taken}
use Rattle.history.proofs.Blind.{plain_log, seen_log, quiet_then, quiet_pick}
use Rattle.history.proofs.Steps.{QuietLog, quiet_logged, quiet_range}

-- of what a read leaves beside its byte
abbrev QuietRead : (WithLog → WithByte) → Type 0
QuietRead f = QuietLog (λ k. (f k).left)

none : QuietLog (λ k. k)
none = record { blind = λ k. refl; still = λ k. refl }

either : (b : Bool) (f g : WithLog → WithByte) → QuietRead f → QuietRead g → QuietRead (λ k. pick b (f k) (g k))
either true f g qf qg = qf
either false f g qf qg = qg

module _ (a : Active) where
  quiet_going : (range nothing : Bool) → QuietLog (reading_on a range nothing)
  quiet_going range nothing = record { blind = λ k. refl; still = λ k. refl }

  quiet_nothing : QuietRead (nothing_read a)
  unfolding nothing_read
  quiet_nothing =
      quiet_then plain_log seen_log (λ k. pick a.nothing_reported k (logged (NothingToRead a.command) k)) (reading_on a a.range_reported true)
      (quiet_pick plain_log seen_log (λ _. a.nothing_reported) (λ k. k) (logged (NothingToRead a.command)) (λ k. refl) none
      (quiet_logged (NothingToRead a.command)))
      (quiet_going a.range_reported true)

  quiet_register : QuietRead (register_read a)
  unfolding register_read
  quiet_register = quiet_going a.range_reported a.nothing_reported

  quiet_moved : (range : Bool) → QuietLog (λ k. reading_on a range a.nothing_reported (moved k))
  quiet_moved range = record { blind = λ k. refl; still = λ k. refl }

  quiet_found : (byte : Option ℕ) → QuietRead (λ k. ram_found a k byte)
  unfolding ram_found
  quiet_found (Some b) = quiet_moved a.range_reported
  quiet_found None = quiet_then plain_log seen_log (out_of_range a) (λ k. reading_on a true a.nothing_reported (moved k)) (quiet_range a) (quiet_moved true)

  module _ (black_white red : List ℕ) where
    -- the byte at the counter, which the core has
    abbrev at : WithLog → Option ℕ
    at k = read_at (plane_of black_white red (chosen k.device)) k.device.regs.counter

    quiet_at : QuietRead (λ k. ram_found a k (at k))
    quiet_at = record { blind = λ k. (quiet_found (at k)).blind k; still = λ k. (quiet_found (at k)).still k }

    quiet_ram : QuietRead (ram_read black_white red a)
    unfolding ram_read
    quiet_ram =
        either (eqb a.read 0) (λ k. with_byte (reading_on a a.range_reported a.nothing_reported k) (Some 0)) (λ k. ram_found a k (at k))
        (quiet_going a.range_reported a.nothing_reported) quiet_at

    quiet_byte : QuietRead (byte_read black_white red a)
    unfolding byte_read
    quiet_byte = either (eqb a.command 0x27) (ram_read black_white red a) (register_read a) quiet_ram quiet_register

    quiet_kind : (kind : Kind) → QuietRead (λ k. read_by_kind black_white red a k kind)
    unfolding read_by_kind
    quiet_kind Read = quiet_byte
    quiet_kind (Write params) = quiet_nothing
    quiet_kind Unsupported = quiet_nothing
    quiet_kind Reserved = quiet_nothing

module _ (black_white red : List ℕ) where
  quiet_current : (c : Current) → QuietRead (λ k. by_current black_white red k c)
  unfolding by_current
  quiet_current current.Idle = none
  quiet_current current.Ignoring = none
  quiet_current (current.Active a) = quiet_kind a black_white red a.kind

  pub quiet_read : (power : Power) → QuietRead (λ k. read_taken black_white red k power)
  unfolding read_taken
  quiet_read Running =
      record {
        blind = λ (k : WithLog). (quiet_current k.device.bus.current).blind k;
        still = λ (k : WithLog). (quiet_current k.device.bus.current).still k;
      }
  quiet_read Asleep = none
  quiet_read InReset = none
