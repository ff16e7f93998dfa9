-- What a read leaves: configuration, clock, glass, display, supplies, BUSY and power; the log's length, its count at most 1,024, registers within
-- the bounds of 13, and of the current command all that `kind` goes by. Assumes nothing.
use Rattle.std.specs.Prelude.{Option, Some, None}
use Prim.Native.Nat.{ℕ}
use mathlib.Core.Path.{◌≡◌, refl, subst, sym, ◌∙◌}
use mathlib.Core.Bool.{Bool, true, false}
use mathlib.Core.List.{List}
use lib.Dec.{eqb}
use Rattle.numbers.specs.Choice.{pick}
use Rattle.ram.specs.Plane.{plane_of, read_at}
use Rattle.diagnostic.specs.declared.DiagnosticKind.{DiagnosticKind}
use Rattle.diagnostic.specs.declared.DiagnosticKind.TheVariants.{RamOutOfRange, NothingToRead}
use Rattle.device.specs.declared.Active.{Active}
use Rattle.device.specs.declared.Current.{Current}
use Rattle.device.specs.declared.Current.TheVariants as current
use Rattle.device.specs.declared.Kind.{Kind}
use Rattle.device.specs.declared.Kind.TheVariants.{Write, Read, Unsupported, Reserved}
use Rattle.device.specs.declared.Power.{Power}
use Rattle.device.specs.declared.Power.TheVariants.{Running, Asleep, InReset}
use Rattle.world.specs.World.{WithLog}
use Rattle.chip.specs.Report.{logged}
use Rattle.acts_laws.proofs.Kept.{logged_kept}
use Rattle.data_laws.proofs.Kept.{Rests, rests_all, rests_then, rests_made, rests_stepped}
use Rattle.data.specs.Data.{out_of_range}
use Rattle.reading.specs.Reading.{WithByte, with_byte, one_read_more, reading_on, nothing_read, register_read, chosen, moved, ram_found, ram_read, byte_read, read_by_kind, by_current, read_taken}

-- what stays of the state and its log, the supplies, BUSY and the power, whatever becomes of the current command
pub record ReadLeaves (k j : WithLog) : Type 0 where
  pub rests : Rests k j
  pub same_clock : j.device.clock ≡ k.device.clock
  pub same_analog : j.device.analog ≡ k.device.analog
  pub same_until : j.device.bus.busy_until ≡ k.device.bus.busy_until
  pub same_power : j.device.bus.power ≡ k.device.bus.power

leaves_all : (k : WithLog) → ReadLeaves k k
leaves_all k = record { rests = rests_all k; same_clock = refl; same_analog = refl; same_until = refl; same_power = refl }

leaves_then : (k j l : WithLog) → ReadLeaves k j → ReadLeaves j l → ReadLeaves k l
leaves_then k j l p q =
    record {
      rests = rests_then k j l p.rests q.rests;
      same_clock = q.same_clock ∙ p.same_clock;
      same_analog = q.same_analog ∙ p.same_analog;
      same_until = q.same_until ∙ p.same_until;
      same_power = q.same_power ∙ p.same_power;
    }

-- a read more of the current command
leaves_going : (a : Active) (range nothing : Bool) (k : WithLog) → ReadLeaves k (reading_on a range nothing k)
leaves_going a range nothing k =
    record {
      rests = rests_made (current.Active (one_read_more a range nothing)) k;
      same_clock = refl;
      same_analog = refl;
      same_until = refl;
      same_power = refl;
    }

leaves_moved : (k : WithLog) → ReadLeaves k (moved k)
leaves_moved k = record { rests = rests_stepped k; same_clock = refl; same_analog = refl; same_until = refl; same_power = refl }

-- a report, unless it was made
leaves_told : (b : Bool) (kind : DiagnosticKind) (k : WithLog) → ReadLeaves k (pick b k (logged kind k))
unfolding logged
leaves_told true kind k = leaves_all k
leaves_told false kind k =
    record {
      rests = record { same_config = refl; same_now = refl; same_panel = refl; same_display = refl; sound = (logged_kept kind k).sound };
      same_clock = refl;
      same_analog = refl;
      same_until = refl;
      same_power = refl;
    }

module _ (a : Active) (k : WithLog) where
  leaves_nothing : ReadLeaves k (nothing_read a k).left
  unfolding nothing_read
  leaves_nothing =
      let j = pick a.nothing_reported k (logged (NothingToRead a.command) k) in
      leaves_then k j (reading_on a a.range_reported true j) (leaves_told a.nothing_reported (NothingToRead a.command) k)
      (leaves_going a a.range_reported true j)

  leaves_register : ReadLeaves k (register_read a k).left
  unfolding register_read
  leaves_register = leaves_going a a.range_reported a.nothing_reported k

  leaves_out : ReadLeaves k (out_of_range a k)
  unfolding out_of_range
  leaves_out = leaves_told a.range_reported (RamOutOfRange a.command k.device.regs.counter.x k.device.regs.counter.y) k

  -- a step of the counter, and a read more
  leaves_on : (range : Bool) (j : WithLog) → ReadLeaves k j → ReadLeaves k (reading_on a range a.nothing_reported (moved j))
  leaves_on range j p =
      leaves_then k (moved j) (reading_on a range a.nothing_reported (moved j)) (leaves_then k j (moved j) p (leaves_moved j))
      (leaves_going a range a.nothing_reported (moved j))

  leaves_found : (b : Option ℕ) → ReadLeaves k (ram_found a k b).left
  unfolding ram_found
  leaves_found (Some b) = leaves_on a.range_reported k (leaves_all k)
  leaves_found None = leaves_on true (out_of_range a k) leaves_out

  module _ (black_white red : List ℕ) where
    -- what the RAM has at the counter
    abbrev there : Option ℕ
    there = read_at (plane_of black_white red (chosen k.device)) k.device.regs.counter

    leaves_ram : ReadLeaves k (ram_read black_white red a k).left
    unfolding ram_read
    leaves_ram = by (eqb a.read 0)
      where
        by : (b : Bool)
            → ReadLeaves k (pick b (with_byte (reading_on a a.range_reported a.nothing_reported k) (Some 0)) (ram_found a k there)).left
        by true = leaves_going a a.range_reported a.nothing_reported k
        by false = leaves_found there

    leaves_byte : ReadLeaves k (byte_read black_white red a k).left
    unfolding byte_read
    leaves_byte = by (eqb a.command 0x27)
      where
        by : (b : Bool) → ReadLeaves k (pick b (ram_read black_white red a k) (register_read a k)).left
        by true = leaves_ram
        by false = leaves_register

    leaves_kind : (x : Kind) → ReadLeaves k (read_by_kind black_white red a k x).left
    unfolding read_by_kind
    leaves_kind Read = leaves_byte
    leaves_kind (Write params) = leaves_nothing
    leaves_kind Unsupported = leaves_nothing
    leaves_kind Reserved = leaves_nothing

leaves_current : (black_white red : List ℕ) (k : WithLog) (c : Current) → ReadLeaves k (by_current black_white red k c).left
unfolding by_current
leaves_current black_white red k current.Idle = leaves_all k
leaves_current black_white red k current.Ignoring = leaves_all k
leaves_current black_white red k (current.Active a) = leaves_kind a k black_white red a.kind

pub read_leaves : (black_white red : List ℕ) (k : WithLog) (p : Power) → ReadLeaves k (read_taken black_white red k p).left
unfolding read_taken
read_leaves black_white red k Running = leaves_current black_white red k k.device.bus.current
read_leaves black_white red k Asleep = leaves_all k
read_leaves black_white red k InReset = leaves_all k

-- what goes by the command and its kind alone stays so of the current command
module _ (P : Current → Type 0) (on : (a : Active) (range nothing : Bool) → P (current.Active a) → P (current.Active (one_read_more a range nothing)))
    (black_white red : List ℕ) (k : WithLog) where
  -- of the state that a read leaves
  abbrev Still : WithByte → Type 0
  Still r = P r.left.device.bus.current

  module _ (a : Active) (h : P (current.Active a)) where
    still_nothing : Still (nothing_read a k)
    unfolding nothing_read
    still_nothing = on a a.range_reported true h

    still_found : (b : Option ℕ) → Still (ram_found a k b)
    unfolding ram_found
    still_found (Some b) = on a a.range_reported a.nothing_reported h
    still_found None = on a true a.nothing_reported h

    still_ram : Still (ram_read black_white red a k)
    unfolding ram_read
    still_ram = by (eqb a.read 0)
      where
        by : (b : Bool)
            → Still
            (pick b
            (with_byte (reading_on a a.range_reported a.nothing_reported k) (Some 0))
            (ram_found a k (read_at (plane_of black_white red (chosen k.device)) k.device.regs.counter)))
        by true = on a a.range_reported a.nothing_reported h
        by false = still_found (read_at (plane_of black_white red (chosen k.device)) k.device.regs.counter)

    still_byte : Still (byte_read black_white red a k)
    unfolding byte_read register_read
    still_byte = by (eqb a.command 0x27)
      where
        by : (b : Bool) → Still (pick b (ram_read black_white red a k) (register_read a k))
        by true = still_ram
        by false = on a a.range_reported a.nothing_reported h

    still_kind : (x : Kind) → Still (read_by_kind black_white red a k x)
    unfolding read_by_kind
    still_kind Read = still_byte
    still_kind (Write params) = still_nothing
    still_kind Unsupported = still_nothing
    still_kind Reserved = still_nothing

  still_current : (c : Current) → k.device.bus.current ≡ c → P c → Still (by_current black_white red k c)
  unfolding by_current
  still_current current.Idle e h = subst P (sym e) h
  still_current current.Ignoring e h = subst P (sym e) h
  still_current (current.Active a) e h = still_kind a h a.kind

  pub current_read : (p : Power) → P k.device.bus.current → Still (read_taken black_white red k p)
  unfolding read_taken
  current_read Running h = still_current k.device.bus.current refl h
  current_read Asleep h = h
  current_read InReset h = h
