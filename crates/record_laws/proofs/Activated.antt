-- 0x20 and the record of the waveform loaded: what a LUT load finds is in the LUT register and in the record afterwards, and without one both
-- are as they were. So the record still tells what the LUT register holds. Assumes nothing.
use Rattle.std.specs.Prelude.{Option, Some, None}
use Prim.Native.Nat.{ℕ}
use mathlib.Core.Path.{◌≡◌, refl, sym, subst}
use mathlib.Core.Bool.{Bool, true, false, ◌&&◌}
use mathlib.Core.List.{List}
use mathlib.Core.Logic.{◌⊎◌, inl, inr}
use lib.ListN.{get_or}
use Rattle.numbers.specs.Choice.{pick, bit_of}
use Rattle.diagnostic.specs.declared.DiagnosticKind.TheVariants.{WithoutClock, WithoutAnalog, RamPingPong}
use Rattle.diagnostic.specs.declared.Stage.TheVariants as stage
use Rattle.otp.specs.Waveform.{part_of}
use Rattle.otp.proofs.Found.{found_is}
use Rattle.device.specs.declared.Registers.{Registers}
use Rattle.device.specs.declared.Ssd1677.{Ssd1677}
use Rattle.world.specs.World.{with_glass, WithBuffers, Lent}
use Rattle.clock.proofs.Arrived.{regs_advanced}
use Rattle.stages.specs.declared.Control.{Control}
use Rattle.stages.specs.declared.Run.{Run}
use Rattle.stages.specs.Run.{control_of, Step, step, noted, waited, with_clock, with_analog}
use Rattle.stages.specs.Stages.{mode_of, setting_in}
use Rattle.stages_laws.proofs.Kept.{either}
use Rattle.activation.specs.Display.{warned, Displayed, unchanged, displayBegun, displayShown}
use Rattle.activation.specs.Activation.{analog_off, clock_off, run_of, run_settled, with_luts, before, during, staged, staged_in, activated}
use Rattle.record_laws.specs.Recorded.{loads, finds}
use Rattle.record_laws.proofs.Registers.{RecordedIn}
use Rattle.record_laws.proofs.Loaded.{is_entry, found_before, none_before}

-- ---- after the load: what holds of the temperature register, the LUT register and the record, the stages keep
module _ (P : ℕ → List ℕ → ℕ → Type 0) where
  -- of a run: its temperature register, LUT register and record
  abbrev After : Run → Type 0
  After r = P r.temperature r.lut r.waveform

  -- of a step, and of a display started or not
  abbrev AfterStep : Step → Type 0
  AfterStep s = After s.run

  abbrev AfterShown : Displayed → Type 0
  AfterShown x = After x.run

  -- of registers
  abbrev AfterIn : Registers → Type 0
  AfterIn r = P r.temperature r.lut r.waveform

  warned_after : (time : ℕ) (two : Bool) (options : List ℕ) (s : Step) → AfterStep s → AfterStep (warned time two options s)
  unfolding warned noted
  warned_after time two options s h = either AfterStep (two && bit_of (get_or options 5 0) 6) (noted time RamPingPong s) s h h

  module _ (black_white red gates : List ℕ) (d : Ssd1677) where
    begun_after : (two : Bool) (s : Step) (luts : List ℕ) → AfterStep s → AfterShown (displayBegun black_white red gates d two s luts)
    unfolding displayBegun waited
    begun_after two s luts h = warned_after d.now two d.regs.display_option s h

    shown_after : (wanted two : Bool) (s : Step) (luts : List ℕ) → AfterStep s → AfterShown (displayShown black_white red gates d wanted two s luts)
    unfolding displayShown noted
    shown_after wanted two s luts h =
        let x = displayBegun black_white red gates d two s luts in
        let unpowered = unchanged d.display luts (noted d.now (WithoutAnalog stage.Display) s) in
        let unclocked = unchanged d.display luts (noted d.now (WithoutClock stage.Display) s) in
        either AfterShown (wanted && s.run.waveform_found) (pick s.run.clock (pick s.run.analog x unpowered) unclocked)
        (unchanged d.display luts s)
        (either AfterShown s.run.clock (pick s.run.analog x unpowered) unclocked
        (either AfterShown s.run.analog x unpowered (begun_after two s luts h) h)
        h)
        h

  analog_off_after : (wanted : Bool) (ns : ℕ) (r : Run) → After r → After (analog_off wanted ns r)
  unfolding analog_off waited
  analog_off_after wanted ns r h = either After (wanted && r.analog) (waited ns (with_analog false r)) r h h

  clock_off_after : (wanted : Bool) (r : Run) → After r → After (clock_off wanted r)
  unfolding clock_off
  clock_off_after wanted r h = either After wanted (with_clock false r) r h h

module _ (k : Lent) (w : WithBuffers) where
  -- what 0x22 asks for
  abbrev control : Control
  control = control_of w.device.regs.update_control_2

  -- what the stages up to the load leave
  abbrev afterLoad : Step
  afterLoad = before k (with_luts w.device w.luts w.log) control

  module _ (P : ℕ → List ℕ → ℕ → Type 0) (h : AfterStep P afterLoad) where
    staged_after : AfterIn P (staged_in k w).device.regs
    unfolding staged run_settled
    staged_after =
        let x = during k (with_luts w.device w.luts w.log) control in
        let a = analog_off control.analog_off w.device.config.timing.analog_off x.run in
        clock_off_after P control.clock_off a
        (analog_off_after P control.analog_off w.device.config.timing.analog_off x.run
        (shown_after P k.black_white k.red k.gates w.device control.display control.mode_two afterLoad w.luts h))

    activated_after : AfterIn P (activated k w).device.regs
    unfolding activated
    activated_after =
        subst (AfterIn P)
        (sym (regs_advanced (staged_in k w).luts (staged_in k w).device.now (with_glass (staged_in k w).device w.states w.picture)))
        staged_after

  -- a load that finds an entry leaves its setting in the LUT register and its number in the record; the temperature register as the activation
  -- leaves it is the one that was asked
  pub found_activated : (entry : ℕ) → loads control w.device.clock ≡ true
      → finds k.otp control (activated k w).device.regs.temperature ≡ Some entry
      → ((activated k w).device.regs.lut ≡ setting_in (part_of k.otp (Some entry))) × ((activated k w).device.regs.waveform ≡ entry)
  found_activated entry h =
      activated_after
      (λ temperature lut waveform.
      finds k.otp control temperature ≡ Some entry → (lut ≡ setting_in (part_of k.otp (Some entry))) × (waveform ≡ entry))
      (found_before w.device.now control w.device.regs.sensor w.device.config k.otp (step (run_of w.device) w.log) entry h)

  -- a load that finds none leaves both as they were, and so does an activation without a load
  pub none_activated : (loads control w.device.clock ≡ false) ⊎ (finds k.otp control (activated k w).device.regs.temperature ≡ None)
      → ((activated k w).device.regs.lut ≡ w.device.regs.lut) × ((activated k w).device.regs.waveform ≡ w.device.regs.waveform)
  none_activated =
      activated_after
      (λ temperature lut waveform.
      (loads control w.device.clock ≡ false) ⊎ (finds k.otp control temperature ≡ None)
      → (lut ≡ w.device.regs.lut) × (waveform ≡ w.device.regs.waveform))
      (none_before w.device.now control w.device.regs.sensor w.device.config k.otp (step (run_of w.device) w.log))

  -- so the record still tells what the LUT register holds
  pub activated_recorded : RecordedIn k.otp w.device.regs → RecordedIn k.otp (activated k w).device.regs
  activated_recorded h = by (loads control w.device.clock) (finds k.otp control (activated k w).device.regs.temperature) refl refl
    where
      by : (b : Bool) (e : Option ℕ) → loads control w.device.clock ≡ b → finds k.otp control (activated k w).device.regs.temperature ≡ e
          → RecordedIn k.otp (activated k w).device.regs
      by true (Some entry) l e =
          let register = (activated k w).device.regs.temperature in
          let f = found_activated entry l e in
          rw (f.0, f.1) (λ _. is_entry k.otp entry (found_is k.otp (mode_of control.mode_two) register entry e).within)
      by true None l e = let n = none_activated (inr e) in rw (n.0, n.1) h
      by false e l _ = let n = none_activated (inl l) in rw (n.0, n.1) h
