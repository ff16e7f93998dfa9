-- The reports of the steps that concern the state and the log, and of a read. Assumes nothing.
use Rattle.std.specs.Prelude.{Option, Some, None}
use Prim.Native.Nat.{ℕ, ◌+◌, ◌*◌, ◌/◌, ◌%◌}
use mathlib.Core.Path.{◌≡◌, refl, ap}
use mathlib.Core.Bool.{Bool, true, false, ◌&&◌}
use mathlib.Core.List.{List}
use native.Mathlib.Omega.{arith}
use lib.Dec.{eqb, ltb, leb}
use Rattle.numbers.specs.Choice.{pick}
use Rattle.counter.specs.Counter.{within_of}
use Rattle.ram.specs.Plane.{plane_of, read_at}
use Rattle.diagnostic.specs.declared.Stage.{Stage}
use Rattle.diagnostic.specs.declared.Stage.TheVariants.{VcomSense, HvReadyDetection, VciDetection}
use Rattle.diagnostic.specs.declared.DiagnosticKind.{DiagnosticKind}
use Rattle.diagnostic.specs.declared.DiagnosticKind.TheVariants.{MissingData, CounterOutsideWindow, WithoutClock, WithoutAnalog, RamOutOfRange, NothingToRead}
use Rattle.diagnostic.specs.Log.{reported}
use Rattle.device.specs.declared.Active.{Active}
use Rattle.device.specs.declared.Current.{Current}
use Rattle.device.specs.declared.Current.TheVariants as current
use Rattle.device.specs.declared.Kind.{Kind}
use Rattle.device.specs.declared.Kind.TheVariants.{Write, Read, Unsupported, Reserved}
use Rattle.device.specs.declared.Power.{Power}
use Rattle.device.specs.declared.Power.TheVariants.{Running, Asleep, InReset}
use Rattle.device.specs.Parts.{with_regs}
use Rattle.world.specs.World.{WithLog, with_log}
use Rattle.registers.specs.Store.{stored}
use Rattle.listed.specs.Listed.{listed}
use Rattle.device.specs.Kinds.{expected_of}
use Rattle.chip.specs.Close.{missing, entries_of, reserved_unreported, ignoring, closed}
use Rattle.chip.specs.Report.{logged}
use Rattle.start.specs.Start.{with_busy_for, is_powered, unpowered, sensing_time, vcom_sensed, pointed}
use Rattle.acts.specs.Reserved.{reserved, checked}
use Rattle.acts.specs.Acts.{with_hv_not_ready, with_vci_low, vci_level, hv_detected, hv_ready, vci_detected, vci_sensed}
use Rattle.parameter.specs.Parameter.{register_taken}
use Rattle.data.specs.Data.{out_of_range}
use Rattle.reading.specs.Reading.{WithByte, with_byte, reading_on, nothing_read, register_read, chosen, moved, ram_found, ram_read, byte_read, read_by_kind, by_current, read_taken}
use Rattle.history.proofs.Blind.{plain_log}
use Rattle.history.proofs.Tells.{one, one_reserved, reported_one, reserved_one, adds_fresh, adds_then, adds_more, adds_one, adds_reserved, Bundle, Tells, tells_none, tells_more, tells_by, tells_pick, tells_then}

abbrev pub in_log : Bundle WithLog
in_log = record { plain = plain_log; journal = λ (k : WithLog). k.device.journal }

-- of the state and the log, at most so many reports
abbrev pub TellsLog : ℕ → (WithLog → WithLog) → Type 0
TellsLog = Tells in_log in_log

abbrev then_log : (m n : ℕ) (f g : WithLog → WithLog) → TellsLog m f → TellsLog n g → TellsLog (m + n) (λ k. g (f k))
then_log = tells_then in_log in_log in_log

abbrev pick_log : (m n : ℕ) (t : WithLog → Bool) (f g : WithLog → WithLog) → ((k : WithLog) → t k ≡ t (plain_log k)) → TellsLog m f → TellsLog n g
    → TellsLog (m + n) (λ k. pick (t k) (f k) (g k))
pick_log = tells_pick in_log in_log

none : TellsLog 0 (λ k. k)
none = tells_none in_log in_log (λ k. k) (λ k. refl) (λ k. refl)

-- a diagnostic that the state decides
pub tells_told : (kind : WithLog → DiagnosticKind) → TellsLog 1 (λ k. logged (kind k) k)
unfolding logged
tells_told kind =
    record {
      blind = λ k. refl;
      makes = λ _. one;
      is = λ (k : WithLog). reported_one (entries_of k) k.device.now (kind k);
      adds = λ _. adds_one;
    }

pub tells_logged : (kind : DiagnosticKind) → TellsLog 1 (logged kind)
tells_logged kind = tells_told (λ _. kind)

-- 26 if parameters lack, and the next command may report a reserved value again
pub tells_closed : TellsLog 1 closed
unfolding closed missing
tells_closed = tells_by in_log in_log 1 (λ k. k.device.bus.current) (λ c k. ignoring k (missing k.device.now (entries_of k) c)) (λ k. refl) by
  where
    leaves : TellsLog 1 (λ (k : WithLog). ignoring k (entries_of k))
    leaves = record { blind = λ k. refl; makes = λ _. reserved_unreported; is = λ k. refl; adds = λ _. adds_more 0 1 reserved_unreported (omega arith) adds_fresh }

    lacks : (kind : DiagnosticKind) → TellsLog 1 (λ (k : WithLog). ignoring k (reported (entries_of k) k.device.now kind))
    lacks kind =
        record {
          blind = λ k. refl;
          makes = λ _ j. reserved_unreported (one j);
          is = λ (k : WithLog). ap reserved_unreported (reported_one (entries_of k) k.device.now kind);
          adds = λ _. adds_then 1 0 one reserved_unreported adds_one adds_fresh;
        }

    whether : (b : Bool) (kind : DiagnosticKind) → TellsLog 1 (λ (k : WithLog). ignoring k (pick b (reported (entries_of k) k.device.now kind) (entries_of k)))
    whether true kind = lacks kind
    whether false kind = leaves

    by : (c : Current) → TellsLog 1 (λ (k : WithLog). ignoring k (missing k.device.now (entries_of k) c))
    by current.Idle = leaves
    by current.Ignoring = leaves
    by (current.Active a) = whether (ltb a.received (expected_of a.kind)) (MissingData a.command (expected_of a.kind) a.received)

tells_unpowered : (stage : Stage) → TellsLog 2 (unpowered stage)
unfolding unpowered
tells_unpowered stage =
    pick_log 1 1 (λ k. k.device.clock) (λ k. pick k.device.analog k (logged (WithoutAnalog stage) k)) (logged (WithoutClock stage)) (λ k. refl)
    (pick_log 0 1 (λ k. k.device.analog) (λ k. k) (logged (WithoutAnalog stage)) (λ k. refl) none (tells_logged (WithoutAnalog stage)))
    (tells_logged (WithoutClock stage))

powered_same : (k : WithLog) → is_powered k.device ≡ is_powered (plain_log k).device
unfolding is_powered
powered_same k = refl

pub tells_sensed : TellsLog 2 vcom_sensed
unfolding vcom_sensed
tells_sensed =
    let busy : WithLog → WithLog = λ (k : WithLog). with_log (with_busy_for k.device (sensing_time k.device)) k.log in
    pick_log 0 2 (λ k. is_powered k.device) busy (unpowered VcomSense) powered_same
    (tells_none in_log in_log busy (λ k. refl) (λ k. refl))
    (tells_unpowered VcomSense)

pub tells_pointed : (command : ℕ) → TellsLog 1 (pointed command)
unfolding pointed
tells_pointed command =
    pick_log 0 1 (λ k. within_of k.device.regs.counter k.device.regs.window) (λ k. k)
    (λ k. logged (CounterOutsideWindow command k.device.regs.counter.x k.device.regs.counter.y) k)
    (λ k. refl)
    none
    (tells_told (λ k. CounterOutsideWindow command k.device.regs.counter.x k.device.regs.counter.y))

-- 30 once a command
tells_reserved : (command value : ℕ) → TellsLog 1 (reserved command value)
unfolding reserved
tells_reserved command value =
    record {
      blind = λ k. refl;
      makes = λ _. one_reserved;
      is = λ (k : WithLog). reserved_one (entries_of k) k.device.now command value;
      adds = λ _. adds_reserved;
    }

pub tells_listed : (t : WithLog → Bool) (command value : ℕ) → ((k : WithLog) → t k ≡ t (plain_log k)) → TellsLog 1 (λ k. checked (t k) command value k)
unfolding checked
tells_listed t command value same = pick_log 0 1 t (λ k. k) (reserved command value) same none (tells_reserved command value)

pub tells_checked : (listed : Bool) (command value : ℕ) → TellsLog 1 (checked listed command value)
tells_checked listed command value = tells_listed (λ _. listed) command value (λ k. refl)

-- ---- the parameters that concern the state and the log
abbrev not_ready : WithLog → WithLog
not_ready k = with_log (with_hv_not_ready k.device true) k.log

tells_detected : (byte : ℕ) → TellsLog 2 (hv_detected byte)
unfolding hv_detected
tells_detected byte =
    let ready : WithLog → WithLog = λ (k : WithLog). with_log (with_busy_for (with_hv_not_ready k.device false) ((byte / 16 % 8 + 1) * 10000000)) k.log in
    pick_log 0 2 (λ k. is_powered k.device) ready (λ k. not_ready (unpowered HvReadyDetection k)) powered_same
    (tells_none in_log in_log ready (λ k. refl) (λ k. refl))
    (then_log 2 0 (unpowered HvReadyDetection) not_ready (tells_unpowered HvReadyDetection) (tells_none in_log in_log not_ready (λ k. refl) (λ k. refl)))

pub tells_hv : (byte : ℕ) → TellsLog 3 (hv_ready byte)
unfolding hv_ready
tells_hv byte =
    then_log 1 2 (checked (eqb (byte / 128) 0 && eqb (byte / 8 % 2) 0) 0x14 byte) (hv_detected byte)
    (tells_checked (eqb (byte / 128) 0 && eqb (byte / 8 % 2) 0) 0x14 byte)
    (tells_detected byte)

tells_vci_detected : (byte : ℕ) → TellsLog 2 (vci_detected byte)
unfolding vci_detected
tells_vci_detected byte =
    let looked : WithLog → WithLog =
    λ (k : WithLog).
    with_log (with_busy_for (with_vci_low k.device (ltb k.device.config.vci_millivolts (vci_level byte))) k.device.config.timing.vci_detection) k.log in
    pick_log 0 2 (λ k. is_powered k.device) looked (unpowered VciDetection) powered_same
    (tells_none in_log in_log looked (λ k. refl) (λ k. refl))
    (tells_unpowered VciDetection)

pub tells_vci : (byte : ℕ) → TellsLog 3 (vci_sensed byte)
unfolding vci_sensed
tells_vci byte =
    then_log 1 2 (checked (leb 3 byte && ltb byte 8) 0x15 byte) (vci_detected byte)
    (tells_checked (leb 3 byte && ltb byte 8) 0x15 byte)
    (tells_vci_detected byte)

pub tells_register : (command index byte : ℕ) → TellsLog 1 (register_taken command index byte)
unfolding register_taken
tells_register command index byte =
    let put : WithLog → WithLog = λ (k : WithLog). with_log (with_regs k.device (stored k.device.regs command index byte)) k.log in
    then_log 0 1 put (λ k. checked (listed k.device.regs command index byte) command byte k)
    (tells_none in_log in_log put (λ k. refl) (λ k. refl))
    (tells_listed (λ k. listed k.device.regs command index byte) command byte (λ k. refl))

-- ---- a read: what it leaves beside its byte
abbrev TellsRead : ℕ → (WithLog → WithByte) → Type 0
TellsRead n f = TellsLog n (λ k. (f k).left)

module _ (a : Active) where
  tells_going : (range nothing : Bool) → TellsLog 0 (reading_on a range nothing)
  tells_going range nothing = tells_none in_log in_log (reading_on a range nothing) (λ k. refl) (λ k. refl)

  tells_nothing : TellsRead 1 (nothing_read a)
  unfolding nothing_read
  tells_nothing =
      then_log 1 0 (λ k. pick a.nothing_reported k (logged (NothingToRead a.command) k)) (reading_on a a.range_reported true)
      (pick_log 0 1 (λ _. a.nothing_reported) (λ k. k) (logged (NothingToRead a.command)) (λ k. refl) none (tells_logged (NothingToRead a.command)))
      (tells_going a.range_reported true)

  tells_register_read : TellsRead 1 (register_read a)
  unfolding register_read
  tells_register_read =
      let next = reading_on a a.range_reported a.nothing_reported in
      tells_more in_log in_log 0 1 next (omega arith) (tells_going a.range_reported a.nothing_reported)

  pub tells_range : TellsLog 1 (out_of_range a)
  unfolding out_of_range
  tells_range =
      pick_log 0 1 (λ _. a.range_reported) (λ k. k)
      (λ k. logged (RamOutOfRange a.command k.device.regs.counter.x k.device.regs.counter.y) k) (λ k. refl) none
      (tells_told (λ k. RamOutOfRange a.command k.device.regs.counter.x k.device.regs.counter.y))

  tells_moved : (range : Bool) → TellsLog 0 (λ k. reading_on a range a.nothing_reported (moved k))
  tells_moved range = tells_none in_log in_log (λ k. reading_on a range a.nothing_reported (moved k)) (λ k. refl) (λ k. refl)

  tells_found : (byte : Option ℕ) → TellsRead 1 (λ k. ram_found a k byte)
  unfolding ram_found
  tells_found (Some b) =
      tells_more in_log in_log 0 1 (λ k. reading_on a a.range_reported a.nothing_reported (moved k)) (omega arith) (tells_moved a.range_reported)
  tells_found None = then_log 1 0 (out_of_range a) (λ k. reading_on a true a.nothing_reported (moved k)) tells_range (tells_moved true)

  module _ (black_white red : List ℕ) where
    -- the byte at the counter, which the core has
    abbrev at : WithLog → Option ℕ
    at k = read_at (plane_of black_white red (chosen k.device)) k.device.regs.counter

    tells_at : TellsRead 1 (λ k. ram_found a k (at k))
    tells_at = tells_by in_log in_log 1 at (λ b k. (ram_found a k b).left) (λ k. refl) tells_found

    either : (b : Bool) (f g : WithLog → WithByte) → TellsRead 1 f → TellsRead 1 g → TellsRead 1 (λ k. pick b (f k) (g k))
    either true f g tf tg = tf
    either false f g tf tg = tg

    tells_ram : TellsRead 1 (ram_read black_white red a)
    unfolding ram_read
    tells_ram =
        let next = reading_on a a.range_reported a.nothing_reported in
        either (eqb a.read 0) (λ k. with_byte (next k) (Some 0)) (λ k. ram_found a k (at k))
        (tells_more in_log in_log 0 1 next (omega arith) (tells_going a.range_reported a.nothing_reported)) tells_at

    tells_byte : TellsRead 1 (byte_read black_white red a)
    unfolding byte_read
    tells_byte = either (eqb a.command 0x27) (ram_read black_white red a) (register_read a) tells_ram tells_register_read

    tells_kind : (kind : Kind) → TellsRead 1 (λ k. read_by_kind black_white red a k kind)
    unfolding read_by_kind
    tells_kind Read = tells_byte
    tells_kind (Write params) = tells_nothing
    tells_kind Unsupported = tells_nothing
    tells_kind Reserved = tells_nothing

module _ (black_white red : List ℕ) where
  still : TellsLog 1 (λ k. k)
  still = tells_more in_log in_log 0 1 (λ k. k) (omega arith) none

  tells_current : (c : Current) → TellsRead 1 (λ k. by_current black_white red k c)
  unfolding by_current
  tells_current current.Idle = still
  tells_current current.Ignoring = still
  tells_current (current.Active a) = tells_kind a black_white red a.kind

  pub tells_read : (power : Power) → TellsRead 1 (λ k. read_taken black_white red k power)
  unfolding read_taken
  tells_read Running = tells_by in_log in_log 1 (λ k. k.device.bus.current) (λ c k. (by_current black_white red k c).left) (λ k. refl) tells_current
  tells_read Asleep = still
  tells_read InReset = still
