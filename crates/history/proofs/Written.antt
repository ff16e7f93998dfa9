-- A data byte, once the clock has moved: it does not look at the glass, the journal or the log, and leaves the glass. Assumes nothing.
use Prim.Native.Nat.{ℕ, ◌%◌}
use mathlib.Core.Path.{◌≡◌, refl, ap}
use mathlib.Core.Bool.{Bool, true, false, ◌||◌}
use lib.Dec.{eqb, ltb}
use Rattle.numbers.specs.Choice.{pick}
use Rattle.ram.specs.declared.Plane.{Plane}
use Rattle.ram.specs.declared.Plane.TheVariants.{BlackWhite, Red}
use Rattle.diagnostic.specs.declared.DiagnosticKind.TheVariants.{DataWithoutCommand, ExtraData}
use Rattle.device.specs.declared.Active.{Active}
use Rattle.device.specs.declared.Current.{Current}
use Rattle.device.specs.declared.Current.TheVariants as current
use Rattle.device.specs.declared.Kind.{Kind}
use Rattle.device.specs.declared.Kind.TheVariants.{Write, Read, Unsupported, Reserved}
use Rattle.device.specs.declared.Params.TheVariants.{Exactly, Between, Stream}
use Rattle.device.specs.declared.Power.{Power}
use Rattle.device.specs.declared.Power.TheVariants.{Running, Asleep, InReset}
use Rattle.world.specs.World.{WithLog, with_log, WithRam, with_ram, on, device_in_ram, log_in_ram}
use Rattle.listed.specs.Listed.{listed}
use Rattle.chip.specs.Report.{logged}
use Rattle.acts.specs.Reserved.{checked}
use Rattle.acts.specs.Acts.{asleep, ram_lost, sleeps, slept, hv_ready, vci_sensed}
use Rattle.parameter.specs.Parameter.{register_taken, writing, auto_filled, auto_taken, parameter_taken}
use Rattle.data.specs.Data.{current_set, writing_on, surplus, at_most, plane_for, plane_written, is_inside, counter_stepped, out_of_range, ram_written, data_by_kind, unasked, data_taken}
use Rattle.history.proofs.Blind.{plain_ram, seen_ram, Quiet, quiet_then, quiet_pick}
use Rattle.history.proofs.Steps.{QuietLog, quiet_logged, quiet_checked, quiet_hv, quiet_vci, quiet_register, quiet_range}

-- of the state, the planes and the log
abbrev pub QuietRam : (WithRam → WithRam) → Type 0
QuietRam = Quiet plain_ram seen_ram

abbrev then_ram : (f g : WithRam → WithRam) → QuietRam f → QuietRam g → QuietRam (λ w. g (f w))
then_ram = quiet_then plain_ram seen_ram

abbrev pick_ram : (t : WithRam → Bool) (f g : WithRam → WithRam) → ((w : WithRam) → t w ≡ t (plain_ram w)) → QuietRam f → QuietRam g
    → QuietRam (λ w. pick (t w) (f w) (g w))
pick_ram = quiet_pick plain_ram seen_ram

none : QuietRam (λ w. w)
none = record { blind = λ w. refl; still = λ w. refl }

-- what concerns the state and the log
quiet_log : (f : WithLog → WithLog) → QuietLog f → QuietRam (on log_in_ram f)
quiet_log f q =
    record {
      blind = λ (w : WithRam). ap (λ (k : WithLog). with_ram k.device w.black_white w.red k.log) (q.blind (with_log w.device w.log));
      still = λ (w : WithRam). q.still (with_log w.device w.log);
    }

-- ---- the parameters
quiet_asleep : QuietRam (on device_in_ram asleep)
unfolding asleep
quiet_asleep = record { blind = λ w. refl; still = λ w. refl }

quiet_sleeps : (byte : ℕ) → QuietRam (sleeps byte)
unfolding sleeps
quiet_sleeps byte =
    pick_ram (λ _. eqb (byte % 4) 0) (λ w. w) (λ w. pick (eqb (byte % 4) 3) (on device_in_ram asleep (ram_lost w)) (on device_in_ram asleep w)) (λ w. refl) none
    (pick_ram (λ _. eqb (byte % 4) 3) (λ w. on device_in_ram asleep (ram_lost w)) (on device_in_ram asleep) (λ w. refl)
    (then_ram ram_lost (on device_in_ram asleep) (record { blind = λ w. refl; still = λ w. refl }) quiet_asleep)
    quiet_asleep)

quiet_slept : (byte : ℕ) → QuietRam (slept byte)
unfolding slept
quiet_slept byte =
    let c = checked (eqb byte 0 || eqb byte 3) 0x10 byte in
    then_ram (on log_in_ram c) (sleeps byte) (quiet_log c (quiet_checked (eqb byte 0 || eqb byte 3) 0x10 byte)) (quiet_sleeps byte)

quiet_filled : (command byte : ℕ) → QuietRam (auto_filled command byte)
quiet_filled command byte =
    pick_ram (λ _. eqb command 0x46) _ _ (λ w. refl) (record { blind = λ w. refl; still = λ w. refl }) (record { blind = λ w. refl; still = λ w. refl })

-- 30 or not, and BUSY
quiet_auto : (command byte : ℕ) → QuietRam (auto_taken command byte)
unfolding auto_taken
quiet_auto command byte =
    record { blind = λ (w : WithRam). (by (listed w.device.regs command 0 byte)).blind w; still = λ (w : WithRam). (by (listed w.device.regs command 0 byte)).still w }
  where
    by : (b : Bool) → QuietRam (λ (w : WithRam). on device_in_ram writing (on log_in_ram (checked b command byte) (auto_filled command byte w)))
    by b =
        then_ram (auto_filled command byte) (λ w. on device_in_ram writing (on log_in_ram (checked b command byte) w)) (quiet_filled command byte)
        (then_ram (on log_in_ram (checked b command byte)) (on device_in_ram writing) (quiet_log (checked b command byte) (quiet_checked b command byte))
        (record { blind = λ w. refl; still = λ w. refl }))

quiet_parameter : (command index byte : ℕ) → QuietRam (parameter_taken command index byte)
unfolding parameter_taken
quiet_parameter command index byte = by (eqb command 0x10) (eqb command 0x14) (eqb command 0x15) (eqb command 0x46) (eqb command 0x47)
  where
    by : (a b c d e : Bool) → QuietRam (λ (w : WithRam).
        pick a (slept byte w) (pick b (on log_in_ram (hv_ready byte) w) (pick c (on log_in_ram (vci_sensed byte) w)
        (pick d (auto_taken 0x46 byte w) (pick e (auto_taken 0x47 byte w) (on log_in_ram (register_taken command index byte) w))))))
    by true b c d e = quiet_slept byte
    by false true c d e = quiet_log (hv_ready byte) (quiet_hv byte)
    by false false true d e = quiet_log (vci_sensed byte) (quiet_vci byte)
    by false false false true e = quiet_auto 0x46 byte
    by false false false false true = quiet_auto 0x47 byte
    by false false false false false = quiet_log (register_taken command index byte) (quiet_register command index byte)

-- ---- the command's own count
quiet_going : (a : Active) (extra range : Bool) → QuietRam (writing_on a extra range)
quiet_going a extra range = record { blind = λ w. refl; still = λ w. refl }

quiet_surplus : (a : Active) → QuietRam (surplus a)
unfolding surplus
quiet_surplus a =
    then_ram (λ w. pick a.extra_reported w (on log_in_ram (logged (ExtraData a.command)) w)) (writing_on a true a.range_reported)
    (pick_ram (λ _. a.extra_reported) (λ w. w) (on log_in_ram (logged (ExtraData a.command))) (λ w. refl) none
    (quiet_log (logged (ExtraData a.command)) (quiet_logged (ExtraData a.command))))
    (quiet_going a true a.range_reported)

quiet_up_to : (most byte : ℕ) (a : Active) → QuietRam (at_most most byte a)
unfolding at_most
quiet_up_to most byte a =
    let next = writing_on a a.extra_reported a.range_reported in
    pick_ram (λ _. ltb a.received most) (λ w. next (parameter_taken a.command a.received byte w)) (surplus a) (λ w. refl)
    (then_ram (parameter_taken a.command a.received byte) next (quiet_parameter a.command a.received byte)
    (quiet_going a a.extra_reported a.range_reported))
    (quiet_surplus a)

-- ---- the planes
quiet_put : (plane : Plane) (byte : ℕ) → QuietRam (plane_written plane byte)
quiet_put BlackWhite byte = record { blind = λ w. refl; still = λ w. refl }
quiet_put Red byte = record { blind = λ w. refl; still = λ w. refl }

quiet_stepped : QuietRam (on device_in_ram counter_stepped)
quiet_stepped = record { blind = λ w. refl; still = λ w. refl }

quiet_out : (a : Active) → QuietRam (on log_in_ram (out_of_range a))
quiet_out a = quiet_log (out_of_range a) (quiet_range a)

inside_same : (plane : Plane) (w : WithRam) → is_inside plane w ≡ is_inside plane (plain_ram w)
inside_same BlackWhite w = refl
inside_same Red w = refl

quiet_ram : (byte : ℕ) (a : Active) → QuietRam (ram_written byte a)
unfolding ram_written
quiet_ram byte a =
    let plane = plane_for a.command in
    let in-it = writing_on a a.extra_reported a.range_reported in
    let past-it = writing_on a a.extra_reported true in
    pick_ram (is_inside plane) (λ w. in-it (on device_in_ram counter_stepped (plane_written plane byte w))) (λ w. past-it (on device_in_ram counter_stepped (on log_in_ram (out_of_range a) w))) (inside_same plane)
    (then_ram (plane_written plane byte) (λ w. in-it (on device_in_ram counter_stepped w)) (quiet_put plane byte)
    (then_ram (on device_in_ram counter_stepped) in-it quiet_stepped (quiet_going a a.extra_reported a.range_reported)))
    (then_ram (on log_in_ram (out_of_range a)) (λ w. past-it (on device_in_ram counter_stepped w)) (quiet_out a)
    (then_ram (on device_in_ram counter_stepped) past-it quiet_stepped (quiet_going a a.extra_reported true)))

-- ---- by the command that the byte belongs to
quiet_kind : (byte : ℕ) (a : Active) (kind : Kind) → QuietRam (λ w. data_by_kind byte a w kind)
unfolding data_by_kind
quiet_kind byte a (Write (Exactly count)) = quiet_up_to count byte a
quiet_kind byte a (Write (Between least most)) = quiet_up_to most byte a
quiet_kind byte a (Write Stream) = quiet_ram byte a
quiet_kind byte a Read = quiet_surplus a
quiet_kind byte a Unsupported = quiet_surplus a
quiet_kind byte a Reserved = quiet_surplus a

quiet_unasked : (byte : ℕ) (power : Power) → QuietRam (λ w. unasked byte w power)
unfolding unasked
quiet_unasked byte Running = quiet_log (logged (DataWithoutCommand byte)) (quiet_logged (DataWithoutCommand byte))
quiet_unasked byte Asleep = none
quiet_unasked byte InReset = none

pub quiet_data : (byte : ℕ) (c : Current) → QuietRam (λ w. data_taken byte w c)
unfolding data_taken
quiet_data byte current.Idle =
    record { blind = λ (w : WithRam). (by w.device.bus.power).blind w; still = λ (w : WithRam). (by w.device.bus.power).still w }
  where
    by : (power : Power) → QuietRam (λ (w : WithRam). on device_in_ram (current_set current.Ignoring) (unasked byte w power))
    by power =
        then_ram (λ w. unasked byte w power) (on device_in_ram (current_set current.Ignoring)) (quiet_unasked byte power)
        (record { blind = λ w. refl; still = λ w. refl })
quiet_data byte current.Ignoring = none
quiet_data byte (current.Active a) = quiet_kind byte a a.kind
