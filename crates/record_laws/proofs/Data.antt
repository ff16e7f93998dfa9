-- A data byte leaves a record that tells what the LUT register holds. Assumes nothing.
use Prim.Native.Nat.{ℕ, ◌+◌, ◌*◌, ◌/◌, ◌%◌}
use mathlib.Core.Bool.{Bool, true, false, ◌&&◌, ◌||◌}
use mathlib.Core.List.{List}
use lib.Dec.{eqb, leb, ltb}
use Rattle.numbers.specs.Choice.{pick}
use Rattle.ram.specs.declared.Plane.{Plane}
use Rattle.ram.specs.declared.Plane.TheVariants.{BlackWhite, Red}
use Rattle.diagnostic.specs.declared.DiagnosticKind.TheVariants.{ExtraData, RamOutOfRange, WithoutClock, WithoutAnalog}
use Rattle.diagnostic.specs.declared.Stage.{Stage}
use Rattle.diagnostic.specs.declared.Stage.TheVariants.{HvReadyDetection, VciDetection}
use Rattle.device.specs.declared.Active.{Active}
use Rattle.device.specs.declared.Current.{Current}
use Rattle.device.specs.declared.Current.TheVariants as current
use Rattle.device.specs.declared.Kind.{Kind}
use Rattle.device.specs.declared.Kind.TheVariants.{Write, Read, Unsupported, Reserved}
use Rattle.device.specs.declared.Params.TheVariants.{Exactly, Between, Stream}
use Rattle.device.specs.declared.Power.{Power}
use Rattle.device.specs.declared.Power.TheVariants.{Running, Asleep, InReset}
use Rattle.device.specs.Parts.{with_regs}
use Rattle.world.specs.World.{WithLog, with_log, WithRam, on, device_in_ram, log_in_ram}
use Rattle.registers.specs.Store.{stored}
use Rattle.listed.specs.Listed.{listed}
use Rattle.chip.specs.Report.{logged}
use Rattle.start.specs.Start.{with_busy_for, is_powered, unpowered}
use Rattle.stages_laws.proofs.Kept.{either}
use Rattle.record_laws.proofs.Registers.{RecordedIn, stored_recorded}
use Rattle.acts.specs.Reserved.{reserved, checked}
use Rattle.acts.specs.Acts.{asleep, ram_lost, sleeps, slept, with_hv_not_ready, with_vci_low, vci_level, hv_detected, hv_ready, vci_detected, vci_sensed}
use Rattle.parameter.specs.Parameter.{register_taken, auto_filled, auto_taken, parameter_taken}
use Rattle.data.specs.Data.{writing_on, surplus, at_most, plane_for, plane_written, is_inside, counter_stepped, out_of_range, ram_written, data_by_kind, unasked, data_taken}

module _ (otp : List ℕ) where
  -- of a state with its log, and with the planes
  abbrev pub RecordedLog : WithLog → Type 0
  RecordedLog k = RecordedIn otp k.device.regs

  abbrev RecordedRam : WithRam → Type 0
  RecordedRam w = RecordedIn otp w.device.regs

  -- ---- a parameter byte
  checked_recorded : (fits : Bool) (command value : ℕ) (k : WithLog) → RecordedLog k → RecordedLog (checked fits command value k)
  unfolding checked reserved
  checked_recorded fits command value k h = either RecordedLog fits k (reserved command value k) h h

  unpowered_recorded : (stage : Stage) (k : WithLog) → RecordedLog k → RecordedLog (unpowered stage k)
  unfolding unpowered logged
  unpowered_recorded stage k h =
      let off = logged (WithoutAnalog stage) k in
      let stopped = logged (WithoutClock stage) k in
      either RecordedLog k.device.clock (pick k.device.analog k off) stopped (either RecordedLog k.device.analog k off h h) h

  hv_recorded : (byte : ℕ) (k : WithLog) → RecordedLog k → RecordedLog (hv_ready byte k)
  unfolding hv_ready hv_detected
  hv_recorded byte k h =
      let fits = eqb (byte / 128) 0 && eqb (byte / 8 % 2) 0 in
      let j = checked fits 0x14 byte k in
      let u = unpowered HvReadyDetection j in
      let g = checked_recorded fits 0x14 byte k h in
      either RecordedLog (is_powered j.device)
      (with_log (with_busy_for (with_hv_not_ready j.device false) ((byte / 16 % 8 + 1) * 10000000)) j.log)
      (with_log (with_hv_not_ready u.device true) u.log)
      g
      (unpowered_recorded HvReadyDetection j g)

  vci_recorded : (byte : ℕ) (k : WithLog) → RecordedLog k → RecordedLog (vci_sensed byte k)
  unfolding vci_sensed vci_detected
  vci_recorded byte k h =
      let fits = leb 3 byte && ltb byte 8 in
      let j = checked fits 0x15 byte k in
      let d = j.device in
      let g = checked_recorded fits 0x15 byte k h in
      either RecordedLog (is_powered d)
      (with_log (with_busy_for (with_vci_low d (ltb d.config.vci_millivolts (vci_level byte))) d.config.timing.vci_detection) j.log)
      (unpowered VciDetection j)
      g
      (unpowered_recorded VciDetection j g)

  slept_recorded : (byte : ℕ) (w : WithRam) → RecordedRam w → RecordedRam (slept byte w)
  unfolding slept sleeps asleep
  slept_recorded byte w h =
      let fits = eqb byte 0 || eqb byte 3 in
      let v = on log_in_ram (checked fits 0x10 byte) w in
      let lost = on device_in_ram asleep (ram_lost v) in
      let kept = on device_in_ram asleep v in
      let g = checked_recorded fits 0x10 byte (with_log w.device w.log) h in
      either RecordedRam (eqb (byte % 4) 0) v (pick (eqb (byte % 4) 3) lost kept) g (either RecordedRam (eqb (byte % 4) 3) lost kept g g)

  auto_recorded : (command byte : ℕ) (w : WithRam) → RecordedRam w → RecordedRam (auto_taken command byte w)
  unfolding auto_taken
  auto_recorded command byte w h =
      let v = auto_filled command byte w in
      checked_recorded (listed w.device.regs command 0 byte) command byte (with_log v.device v.log) (either RecordedRam (eqb command 0x46) _ _ h h)

  register_recorded : (command index byte : ℕ) (k : WithLog) → RecordedLog k → RecordedLog (register_taken command index byte k)
  unfolding register_taken
  register_recorded command index byte k h =
      let regs = stored k.device.regs command index byte in
      checked_recorded (listed regs command index byte) command byte (with_log (with_regs k.device regs) k.log)
      (stored_recorded otp k.device.regs command index byte h)

  parameter_recorded : (command index byte : ℕ) (w : WithRam) → RecordedRam w → RecordedRam (parameter_taken command index byte w)
  unfolding parameter_taken
  parameter_recorded command index byte w h = by (eqb command 0x10) (eqb command 0x14) (eqb command 0x15) (eqb command 0x46) (eqb command 0x47)
    where
      by : (a b c d e : Bool)
          → RecordedRam
          (pick a (slept byte w) (pick b (on log_in_ram (hv_ready byte) w) (pick c (on log_in_ram (vci_sensed byte) w)
          (pick d (auto_taken 0x46 byte w) (pick e (auto_taken 0x47 byte w) (on log_in_ram (register_taken command index byte) w))))))
      by true b c d e = slept_recorded byte w h
      by false true c d e = hv_recorded byte (with_log w.device w.log) h
      by false false true d e = vci_recorded byte (with_log w.device w.log) h
      by false false false true e = auto_recorded 0x46 byte w h
      by false false false false true = auto_recorded 0x47 byte w h
      by false false false false false = register_recorded command index byte (with_log w.device w.log) h

  -- ---- a data byte
  surplus_recorded : (a : Active) (w : WithRam) → RecordedRam w → RecordedRam (surplus a w)
  unfolding surplus logged
  surplus_recorded a w h = either RecordedRam a.extra_reported w (on log_in_ram (logged (ExtraData a.command)) w) h h

  up_to_recorded : (most byte : ℕ) (a : Active) (w : WithRam) → RecordedRam w → RecordedRam (at_most most byte a w)
  unfolding at_most
  up_to_recorded most byte a w h =
      either RecordedRam (ltb a.received most)
      (writing_on a a.extra_reported a.range_reported (parameter_taken a.command a.received byte w))
      (surplus a w)
      (parameter_recorded a.command a.received byte w h)
      (surplus_recorded a w h)

  put_recorded : (plane : Plane) (byte : ℕ) (w : WithRam) → RecordedRam w → RecordedRam (plane_written plane byte w)
  put_recorded BlackWhite byte w h = h
  put_recorded Red byte w h = h

  pub out_recorded : (a : Active) (k : WithLog) → RecordedLog k → RecordedLog (out_of_range a k)
  unfolding out_of_range logged
  out_recorded a k h =
      either RecordedLog a.range_reported k
      (logged (RamOutOfRange a.command k.device.regs.counter.x k.device.regs.counter.y) k)
      h
      h

  -- the counter's step leaves the LUT register and the record
  ram_recorded : (byte : ℕ) (a : Active) (w : WithRam) → RecordedRam w → RecordedRam (ram_written byte a w)
  unfolding ram_written
  ram_recorded byte a w h =
      let plane = plane_for a.command in
      either RecordedRam (is_inside plane w)
      (writing_on a a.extra_reported a.range_reported (on device_in_ram counter_stepped (plane_written plane byte w)))
      (writing_on a a.extra_reported true (on device_in_ram counter_stepped (on log_in_ram (out_of_range a) w)))
      (put_recorded plane byte w h)
      (out_recorded a (with_log w.device w.log) h)

  kind_recorded : (byte : ℕ) (a : Active) (w : WithRam) (kind : Kind) → RecordedRam w → RecordedRam (data_by_kind byte a w kind)
  unfolding data_by_kind
  kind_recorded byte a w (Write (Exactly count)) h = up_to_recorded count byte a w h
  kind_recorded byte a w (Write (Between least most)) h = up_to_recorded most byte a w h
  kind_recorded byte a w (Write Stream) h = ram_recorded byte a w h
  kind_recorded byte a w Read h = surplus_recorded a w h
  kind_recorded byte a w Unsupported h = surplus_recorded a w h
  kind_recorded byte a w Reserved h = surplus_recorded a w h

  unasked_recorded : (byte : ℕ) (w : WithRam) (power : Power) → RecordedRam w → RecordedRam (unasked byte w power)
  unfolding unasked logged
  unasked_recorded byte w Running h = h
  unasked_recorded byte w Asleep h = h
  unasked_recorded byte w InReset h = h

  pub data_recorded : (byte : ℕ) (w : WithRam) (c : Current) → RecordedRam w → RecordedRam (data_taken byte w c)
  unfolding data_taken
  data_recorded byte w current.Idle h = unasked_recorded byte w w.device.bus.power h
  data_recorded byte w current.Ignoring h = h
  data_recorded byte w (current.Active a) h = kind_recorded byte a w a.kind h
