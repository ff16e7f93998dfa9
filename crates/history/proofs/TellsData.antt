-- The reports of a data byte, once the clock has moved. Assumes nothing.
use Prim.Native.Nat.{ℕ, ◌+◌, ◌%◌}
use mathlib.Core.Path.{◌≡◌, refl, ap}
use mathlib.Core.Bool.{Bool, true, false, ◌||◌}
use native.Mathlib.Omega.{arith}
use lib.Dec.{eqb, ltb}
use Rattle.numbers.specs.Choice.{pick}
use Rattle.ram.specs.declared.Plane.{Plane}
use Rattle.ram.specs.declared.Plane.TheVariants.{BlackWhite, Red}
use Rattle.diagnostic.specs.declared.DiagnosticKind.TheVariants.{DataWithoutCommand, ExtraData}
use Rattle.device.specs.declared.Active.{Active}
use Rattle.device.specs.declared.Current.{Current}
use Rattle.device.specs.declared.Current.TheVariants as current
use Rattle.device.specs.declared.Kind.{Kind}
use Rattle.device.specs.declared.Kind.TheVariants.{Write, Read, Unsupported, Reserved}
use Rattle.device.specs.declared.Params.TheVariants.{Exactly, Between, Stream}
use Rattle.device.specs.declared.Power.{Power}
use Rattle.device.specs.declared.Power.TheVariants.{Running, Asleep, InReset}
use Rattle.world.specs.World.{WithLog, with_log, WithRam, with_ram, on, device_in_ram, log_in_ram}
use Rattle.listed.specs.Listed.{listed}
use Rattle.chip.specs.Report.{logged}
use Rattle.acts.specs.Reserved.{checked}
use Rattle.acts.specs.Acts.{asleep, ram_lost, sleeps, slept, hv_ready, vci_sensed}
use Rattle.parameter.specs.Parameter.{register_taken, writing, auto_filled, auto_taken, parameter_taken}
use Rattle.data.specs.Data.{current_set, writing_on, surplus, at_most, plane_for, plane_written, is_inside, counter_stepped, out_of_range, ram_written, data_by_kind, unasked, data_taken}
use Rattle.history.proofs.Blind.{plain_ram}
use Rattle.history.proofs.Tells.{Bundle, Tells, tells_none, tells_more, tells_by, tells_pick, tells_then}
use Rattle.history.proofs.TellsLog.{TellsLog, tells_logged, tells_checked, tells_hv, tells_vci, tells_register, tells_range}

abbrev pub in_ram : Bundle WithRam
in_ram = record { plain = plain_ram; journal = λ (w : WithRam). w.device.journal }

-- of the state, the planes and the log
abbrev pub TellsRam : ℕ → (WithRam → WithRam) → Type 0
TellsRam = Tells in_ram in_ram

abbrev then_ram : (m n : ℕ) (f g : WithRam → WithRam) → TellsRam m f → TellsRam n g → TellsRam (m + n) (λ w. g (f w))
then_ram = tells_then in_ram in_ram in_ram

abbrev pick_ram : (m n : ℕ) (t : WithRam → Bool) (f g : WithRam → WithRam) → ((w : WithRam) → t w ≡ t (plain_ram w)) → TellsRam m f → TellsRam n g
    → TellsRam (m + n) (λ w. pick (t w) (f w) (g w))
pick_ram = tells_pick in_ram in_ram

none : TellsRam 0 (λ w. w)
none = tells_none in_ram in_ram (λ w. w) (λ w. refl) (λ w. refl)

-- what concerns the state and the log
tells_log : (n : ℕ) (f : WithLog → WithLog) → TellsLog n f → TellsRam n (on log_in_ram f)
tells_log n f t =
    record {
      blind = λ (w : WithRam). ap (λ (k : WithLog). with_ram k.device w.black_white w.red k.log) (t.blind (with_log w.device w.log));
      makes = λ (w : WithRam). t.makes (with_log w.device w.log);
      is = λ (w : WithRam). t.is (with_log w.device w.log);
      adds = λ (w : WithRam). t.adds (with_log w.device w.log);
    }

-- ---- the parameters
tells_asleep : TellsRam 0 (on device_in_ram asleep)
unfolding asleep
tells_asleep = tells_none in_ram in_ram (on device_in_ram asleep) (λ w. refl) (λ w. refl)

tells_sleeps : (byte : ℕ) → TellsRam 0 (sleeps byte)
unfolding sleeps
tells_sleeps byte =
    pick_ram 0 0 (λ _. eqb (byte % 4) 0) (λ w. w) (λ w. pick (eqb (byte % 4) 3) (on device_in_ram asleep (ram_lost w)) (on device_in_ram asleep w)) (λ w. refl) none
    (pick_ram 0 0 (λ _. eqb (byte % 4) 3) (λ w. on device_in_ram asleep (ram_lost w)) (on device_in_ram asleep) (λ w. refl)
    (then_ram 0 0 ram_lost (on device_in_ram asleep) (tells_none in_ram in_ram ram_lost (λ w. refl) (λ w. refl)) tells_asleep)
    tells_asleep)

tells_slept : (byte : ℕ) → TellsRam 1 (slept byte)
unfolding slept
tells_slept byte =
    let c = checked (eqb byte 0 || eqb byte 3) 0x10 byte in
    then_ram 1 0 (on log_in_ram c) (sleeps byte) (tells_log 1 c (tells_checked (eqb byte 0 || eqb byte 3) 0x10 byte)) (tells_sleeps byte)

tells_filled : (command byte : ℕ) → TellsRam 0 (auto_filled command byte)
tells_filled command byte = by (eqb command 0x46)
  where
    by : (b : Bool) → TellsRam 0 (λ (w : WithRam). pick b (auto_filled 0x46 byte w) (auto_filled 0x47 byte w))
    by true = tells_none in_ram in_ram (auto_filled 0x46 byte) (λ w. refl) (λ w. refl)
    by false = tells_none in_ram in_ram (auto_filled 0x47 byte) (λ w. refl) (λ w. refl)

-- 30 or not, and BUSY
tells_auto : (command byte : ℕ) → TellsRam 1 (auto_taken command byte)
unfolding auto_taken
tells_auto command byte =
    tells_by in_ram in_ram 1 (λ (w : WithRam). listed w.device.regs command 0 byte)
    (λ (b : Bool) (w : WithRam). on device_in_ram writing (on log_in_ram (checked b command byte) (auto_filled command byte w))) (λ w. refl) by
  where
    by : (b : Bool) → TellsRam 1 (λ (w : WithRam). on device_in_ram writing (on log_in_ram (checked b command byte) (auto_filled command byte w)))
    by b =
        then_ram 0 1 (auto_filled command byte) (λ w. on device_in_ram writing (on log_in_ram (checked b command byte) w)) (tells_filled command byte)
        (then_ram 1 0 (on log_in_ram (checked b command byte)) (on device_in_ram writing) (tells_log 1 (checked b command byte) (tells_checked b command byte))
        (tells_none in_ram in_ram (on device_in_ram writing) (λ w. refl) (λ w. refl)))

tells_parameter : (command index byte : ℕ) → TellsRam 3 (parameter_taken command index byte)
unfolding parameter_taken
tells_parameter command index byte = by (eqb command 0x10) (eqb command 0x14) (eqb command 0x15) (eqb command 0x46) (eqb command 0x47)
  where
    raised : (f : WithRam → WithRam) → TellsRam 1 f → TellsRam 3 f
    raised f = tells_more in_ram in_ram 1 3 f (omega arith)

    by : (a b c d e : Bool) → TellsRam 3 (λ (w : WithRam).
        pick a (slept byte w) (pick b (on log_in_ram (hv_ready byte) w) (pick c (on log_in_ram (vci_sensed byte) w)
        (pick d (auto_taken 0x46 byte w) (pick e (auto_taken 0x47 byte w) (on log_in_ram (register_taken command index byte) w))))))
    by true b c d e = raised (slept byte) (tells_slept byte)
    by false true c d e = tells_log 3 (hv_ready byte) (tells_hv byte)
    by false false true d e = tells_log 3 (vci_sensed byte) (tells_vci byte)
    by false false false true e = raised (auto_taken 0x46 byte) (tells_auto 0x46 byte)
    by false false false false true = raised (auto_taken 0x47 byte) (tells_auto 0x47 byte)
    by false false false false false =
        raised (on log_in_ram (register_taken command index byte)) (tells_log 1 (register_taken command index byte) (tells_register command index byte))

-- ---- the command's own count
tells_going : (a : Active) (extra range : Bool) → TellsRam 0 (writing_on a extra range)
tells_going a extra range = tells_none in_ram in_ram (writing_on a extra range) (λ w. refl) (λ w. refl)

tells_surplus : (a : Active) → TellsRam 1 (surplus a)
unfolding surplus
tells_surplus a =
    then_ram 1 0 (λ w. pick a.extra_reported w (on log_in_ram (logged (ExtraData a.command)) w)) (writing_on a true a.range_reported)
    (pick_ram 0 1 (λ _. a.extra_reported) (λ w. w) (on log_in_ram (logged (ExtraData a.command))) (λ w. refl) none
    (tells_log 1 (logged (ExtraData a.command)) (tells_logged (ExtraData a.command))))
    (tells_going a true a.range_reported)

tells_up_to : (most byte : ℕ) (a : Active) → TellsRam 4 (at_most most byte a)
unfolding at_most
tells_up_to most byte a =
    let next = writing_on a a.extra_reported a.range_reported in
    pick_ram 3 1 (λ _. ltb a.received most) (λ w. next (parameter_taken a.command a.received byte w)) (surplus a) (λ w. refl)
    (then_ram 3 0 (parameter_taken a.command a.received byte) next (tells_parameter a.command a.received byte)
    (tells_going a a.extra_reported a.range_reported))
    (tells_surplus a)

-- ---- the planes
tells_put : (plane : Plane) (byte : ℕ) → TellsRam 0 (plane_written plane byte)
tells_put BlackWhite byte = tells_none in_ram in_ram (plane_written BlackWhite byte) (λ w. refl) (λ w. refl)
tells_put Red byte = tells_none in_ram in_ram (plane_written Red byte) (λ w. refl) (λ w. refl)

tells_stepped : TellsRam 0 (on device_in_ram counter_stepped)
tells_stepped = tells_none in_ram in_ram (on device_in_ram counter_stepped) (λ w. refl) (λ w. refl)

tells_out : (a : Active) → TellsRam 1 (on log_in_ram (out_of_range a))
tells_out a = tells_log 1 (out_of_range a) (tells_range a)

inside_same : (plane : Plane) (w : WithRam) → is_inside plane w ≡ is_inside plane (plain_ram w)
inside_same BlackWhite w = refl
inside_same Red w = refl

tells_ram : (byte : ℕ) (a : Active) → TellsRam 1 (ram_written byte a)
unfolding ram_written
tells_ram byte a =
    let plane = plane_for a.command in
    let in-it = writing_on a a.extra_reported a.range_reported in
    let past-it = writing_on a a.extra_reported true in
    pick_ram 0 1 (is_inside plane) (λ w. in-it (on device_in_ram counter_stepped (plane_written plane byte w))) (λ w. past-it (on device_in_ram counter_stepped (on log_in_ram (out_of_range a) w))) (inside_same plane)
    (then_ram 0 0 (plane_written plane byte) (λ w. in-it (on device_in_ram counter_stepped w)) (tells_put plane byte)
    (then_ram 0 0 (on device_in_ram counter_stepped) in-it tells_stepped (tells_going a a.extra_reported a.range_reported)))
    (then_ram 1 0 (on log_in_ram (out_of_range a)) (λ w. past-it (on device_in_ram counter_stepped w)) (tells_out a)
    (then_ram 0 0 (on device_in_ram counter_stepped) past-it tells_stepped (tells_going a a.extra_reported true)))

-- ---- by the command that the byte belongs to
tells_kind : (byte : ℕ) (a : Active) (kind : Kind) → TellsRam 4 (λ w. data_by_kind byte a w kind)
unfolding data_by_kind
tells_kind byte a (Write (Exactly count)) = tells_up_to count byte a
tells_kind byte a (Write (Between least most)) = tells_up_to most byte a
tells_kind byte a (Write Stream) = tells_more in_ram in_ram 1 4 (ram_written byte a) (omega arith) (tells_ram byte a)
tells_kind byte a Read = tells_more in_ram in_ram 1 4 (surplus a) (omega arith) (tells_surplus a)
tells_kind byte a Unsupported = tells_more in_ram in_ram 1 4 (surplus a) (omega arith) (tells_surplus a)
tells_kind byte a Reserved = tells_more in_ram in_ram 1 4 (surplus a) (omega arith) (tells_surplus a)

still : TellsRam 4 (λ w. w)
still = tells_more in_ram in_ram 0 4 (λ w. w) (omega arith) none

tells_unasked : (byte : ℕ) (power : Power) → TellsRam 4 (λ w. unasked byte w power)
unfolding unasked
tells_unasked byte Running =
    tells_more in_ram in_ram 1 4 (on log_in_ram (logged (DataWithoutCommand byte))) (omega arith)
    (tells_log 1 (logged (DataWithoutCommand byte)) (tells_logged (DataWithoutCommand byte)))
tells_unasked byte Asleep = still
tells_unasked byte InReset = still

pub tells_data : (byte : ℕ) (c : Current) → TellsRam 4 (λ w. data_taken byte w c)
unfolding data_taken
tells_data byte current.Idle =
    tells_by in_ram in_ram 4 (λ (w : WithRam). w.device.bus.power)
    (λ (power : Power) (w : WithRam). on device_in_ram (current_set current.Ignoring) (unasked byte w power)) (λ w. refl) by
  where
    by : (power : Power) → TellsRam 4 (λ (w : WithRam). on device_in_ram (current_set current.Ignoring) (unasked byte w power))
    by power =
        then_ram 4 0 (λ w. unasked byte w power) (on device_in_ram (current_set current.Ignoring)) (tells_unasked byte power)
        (tells_none in_ram in_ram (on device_in_ram (current_set current.Ignoring)) (λ w. refl) (λ w. refl))
tells_data byte current.Ignoring = still
tells_data byte (current.Active a) = tells_kind byte a a.kind
