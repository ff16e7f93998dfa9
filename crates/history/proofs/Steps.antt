-- The steps that concern the state and the log: none looks at the glass, the journal or the log, and each leaves the glass. Assumes nothing.
use Prim.Native.Nat.{ℕ, ◌+◌, ◌*◌, ◌/◌, ◌%◌}
use mathlib.Core.Path.{◌≡◌, refl}
use mathlib.Core.Bool.{Bool, true, false, ◌&&◌}
use lib.Dec.{eqb, ltb, leb}
use Rattle.numbers.specs.Choice.{pick}
use Rattle.counter.specs.Counter.{within_of}
use Rattle.diagnostic.specs.declared.Stage.{Stage}
use Rattle.diagnostic.specs.declared.Stage.TheVariants.{VcomSense, HvReadyDetection, VciDetection}
use Rattle.diagnostic.specs.declared.DiagnosticKind.{DiagnosticKind}
use Rattle.diagnostic.specs.declared.DiagnosticKind.TheVariants.{CounterOutsideWindow, WithoutClock, WithoutAnalog, RamOutOfRange}
use Rattle.device.specs.declared.Active.{Active}
use Rattle.device.specs.Parts.{with_regs}
use Rattle.world.specs.World.{WithLog, with_log}
use Rattle.registers.specs.Store.{stored}
use Rattle.listed.specs.Listed.{listed}
use Rattle.chip.specs.Close.{closed}
use Rattle.chip.specs.Report.{logged}
use Rattle.start.specs.Start.{with_busy_for, is_powered, unpowered, sensing_time, vcom_sensed, pointed}
use Rattle.acts.specs.Reserved.{reserved, checked}
use Rattle.acts.specs.Acts.{with_hv_not_ready, with_vci_low, vci_level, hv_detected, hv_ready, vci_detected, vci_sensed}
use Rattle.parameter.specs.Parameter.{register_taken}
use Rattle.data.specs.Data.{out_of_range}
use Rattle.history.proofs.Blind.{plain_log, seen_log, Quiet, quiet_then, quiet_pick}

-- of the state and the log
abbrev pub QuietLog : (WithLog → WithLog) → Type 0
QuietLog = Quiet plain_log seen_log

abbrev then_log : (f g : WithLog → WithLog) → QuietLog f → QuietLog g → QuietLog (λ k. g (f k))
then_log = quiet_then plain_log seen_log

abbrev pick_log : (t : WithLog → Bool) (f g : WithLog → WithLog) → ((k : WithLog) → t k ≡ t (plain_log k)) → QuietLog f → QuietLog g
    → QuietLog (λ k. pick (t k) (f k) (g k))
pick_log = quiet_pick plain_log seen_log

none : QuietLog (λ k. k)
none = record { blind = λ k. refl; still = λ k. refl }

pub quiet_closed : QuietLog closed
unfolding closed
quiet_closed = record { blind = λ k. refl; still = λ k. refl }

pub quiet_logged : (kind : DiagnosticKind) → QuietLog (logged kind)
unfolding logged
quiet_logged kind = record { blind = λ k. refl; still = λ k. refl }

-- a diagnostic that the state decides
quiet_told : (kind : WithLog → DiagnosticKind) → QuietLog (λ k. logged (kind k) k)
unfolding logged
quiet_told kind = record { blind = λ k. refl; still = λ k. refl }

quiet_unpowered : (stage : Stage) → QuietLog (unpowered stage)
unfolding unpowered
quiet_unpowered stage =
    pick_log (λ k. k.device.clock) (λ k. pick k.device.analog k (logged (WithoutAnalog stage) k)) (logged (WithoutClock stage)) (λ k. refl)
    (pick_log (λ k. k.device.analog) (λ k. k) (logged (WithoutAnalog stage)) (λ k. refl) none (quiet_logged (WithoutAnalog stage)))
    (quiet_logged (WithoutClock stage))

powered_same : (k : WithLog) → is_powered k.device ≡ is_powered (plain_log k).device
unfolding is_powered
powered_same k = refl

pub quiet_sensed : QuietLog vcom_sensed
unfolding vcom_sensed
quiet_sensed =
    pick_log (λ k. is_powered k.device) (λ k. with_log (with_busy_for k.device (sensing_time k.device)) k.log) (unpowered VcomSense) powered_same
    (record { blind = λ k. refl; still = λ k. refl })
    (quiet_unpowered VcomSense)

pub quiet_pointed : (command : ℕ) → QuietLog (pointed command)
unfolding pointed
quiet_pointed command =
    pick_log (λ k. within_of k.device.regs.counter k.device.regs.window) (λ k. k)
    (λ k. logged (CounterOutsideWindow command k.device.regs.counter.x k.device.regs.counter.y) k)
    (λ k. refl)
    none
    (quiet_told (λ k. CounterOutsideWindow command k.device.regs.counter.x k.device.regs.counter.y))

-- 30, whether the value is listed or not
pub quiet_checked : (listed : Bool) (command value : ℕ) → QuietLog (checked listed command value)
unfolding checked reserved
quiet_checked true command value = record { blind = λ k. refl; still = λ k. refl }
quiet_checked false command value = record { blind = λ k. refl; still = λ k. refl }

-- 31 says where the counter is, which the core has
pub quiet_range : (a : Active) → QuietLog (out_of_range a)
unfolding out_of_range logged
quiet_range a =
    pick_log (λ _. a.range_reported) (λ k. k)
    (λ k. logged (RamOutOfRange a.command k.device.regs.counter.x k.device.regs.counter.y) k) (λ k. refl) none
    (record { blind = λ k. refl; still = λ k. refl })

-- ---- the parameters that concern the state and the log
abbrev not_ready : WithLog → WithLog
not_ready k = with_log (with_hv_not_ready k.device true) k.log

quiet_detected : (byte : ℕ) → QuietLog (hv_detected byte)
unfolding hv_detected
quiet_detected byte =
    pick_log (λ k. is_powered k.device)
    (λ k. with_log (with_busy_for (with_hv_not_ready k.device false) ((byte / 16 % 8 + 1) * 10000000)) k.log)
    (λ k. not_ready (unpowered HvReadyDetection k))
    powered_same
    (record { blind = λ k. refl; still = λ k. refl })
    (then_log (unpowered HvReadyDetection) not_ready (quiet_unpowered HvReadyDetection) (record { blind = λ k. refl; still = λ k. refl }))

pub quiet_hv : (byte : ℕ) → QuietLog (hv_ready byte)
unfolding hv_ready
quiet_hv byte =
    then_log (checked (eqb (byte / 128) 0 && eqb (byte / 8 % 2) 0) 0x14 byte) (hv_detected byte)
    (quiet_checked (eqb (byte / 128) 0 && eqb (byte / 8 % 2) 0) 0x14 byte)
    (quiet_detected byte)

quiet_vci_detected : (byte : ℕ) → QuietLog (vci_detected byte)
unfolding vci_detected
quiet_vci_detected byte =
    pick_log (λ k. is_powered k.device)
    (λ k. with_log (with_busy_for (with_vci_low k.device (ltb k.device.config.vci_millivolts (vci_level byte))) k.device.config.timing.vci_detection) k.log)
    (unpowered VciDetection)
    powered_same
    (record { blind = λ k. refl; still = λ k. refl })
    (quiet_unpowered VciDetection)

pub quiet_vci : (byte : ℕ) → QuietLog (vci_sensed byte)
unfolding vci_sensed
quiet_vci byte =
    then_log (checked (leb 3 byte && ltb byte 8) 0x15 byte) (vci_detected byte)
    (quiet_checked (leb 3 byte && ltb byte 8) 0x15 byte)
    (quiet_vci_detected byte)

-- 30 or not, by what the state decides
quiet_listed : (t : WithLog → Bool) (command value : ℕ) → ((k : WithLog) → t k ≡ t (plain_log k)) → QuietLog (λ k. checked (t k) command value k)
unfolding checked
quiet_listed t command value same = pick_log t (λ k. k) (reserved command value) same none (quiet_checked false command value)

pub quiet_register : (command index byte : ℕ) → QuietLog (register_taken command index byte)
unfolding register_taken
quiet_register command index byte =
    then_log (λ k. with_log (with_regs k.device (stored k.device.regs command index byte)) k.log)
    (λ k. checked (listed k.device.regs command index byte) command byte k)
    (record { blind = λ k. refl; still = λ k. refl })
    (quiet_listed (λ k. listed k.device.regs command index byte) command byte (λ k. refl))
