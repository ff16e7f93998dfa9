-- 0x20, part by part: what it leaves of a state as it was, and the buffers' lengths. Assumes nothing.
use Prim.Native.Nat.{ℕ, ◌%◌}
use mathlib.Core.Path.{◌≡◌, refl, sym, ap, subst, ◌∙◌}
use mathlib.Core.Bool.{Bool, false, ◌&&◌}
use mathlib.Core.List.{List}
use lib.ListN.{length, get_or}
use Rattle.numbers.specs.Choice.{pick, bit_of}
use Rattle.diagnostic.specs.declared.DiagnosticKind.{DiagnosticKind}
use Rattle.diagnostic.specs.declared.DiagnosticKind.TheVariants.{WithoutClock, WithoutAnalog, RamPingPong}
use Rattle.diagnostic.specs.declared.Stage.TheVariants as stage
use Rattle.diagnostic.specs.declared.Journal.{Journal}
use Rattle.diagnostic.specs.Log.{Entries, entries, reported}
use Rattle.waveform.specs.Setting.{waveform_of}
use Rattle.waveform.specs.Duration.{duration_of}
use Rattle.device.specs.declared.Registers.{Registers}
use Rattle.device.specs.declared.Ssd1677.{Ssd1677}
use Rattle.device.specs.Parts.{with_loaded}
use Rattle.world.specs.World.{WithGlass, with_glass, WithBuffers, Lent}
use Rattle.moment.proofs.Current.{current_busy}
use Rattle.clock.proofs.Arrived.{config_advanced, swing_advanced, regs_advanced, journal_advanced, current_advanced, states_advanced}
use Rattle.stages.specs.declared.Run.{Run}
use Rattle.stages.specs.Run.{control_of, Step, step, noted, waited, with_clock, with_analog}
use Rattle.stages_laws.proofs.Kept.{either, Holds, HoldsOf, noted_holds, waited_holds, loaded_holds}
use Rattle.activation.specs.Display.{warned, Displayed, unchanged, displayBegun, displayShown}
use Rattle.activation.specs.Activation.{analog_off, clock_off, run_of, run_settled, with_luts, before, during, staged, staged_in, activated}
use Rattle.activation.proofs.Kept.{luts_staged}

module _ (k : Lent) (w : WithBuffers) where
  -- the state after the stages, with the glass that was lent
  abbrev glassThen : WithGlass
  glassThen = with_glass (staged_in k w).device w.states w.picture

  pub config_activated : (activated k w).device.config ≡ w.device.config
  unfolding activated staged run_settled
  config_activated = config_advanced (staged_in k w).luts (staged_in k w).device.now glassThen

  pub swing_activated : (activated k w).device.panel.swing ≡ w.device.panel.swing
  unfolding activated staged run_settled
  swing_activated = swing_advanced (staged_in k w).luts (staged_in k w).device.now glassThen

  pub states_activated : length (activated k w).states ≡ length w.states
  unfolding activated
  states_activated = states_advanced (staged_in k w).luts (staged_in k w).device.now glassThen

  pub luts_activated : length (activated k w).luts ≡ length w.luts
  unfolding activated
  luts_activated = luts_staged k (with_luts w.device w.luts w.log)

  current_staged : (staged_in k w).device.bus.current ≡ w.device.bus.current
  unfolding staged run_settled
  current_staged = current_busy w.device.bus w.device.config.frequency w.device.now _

  pub current_activated : (activated k w).device.bus.current ≡ w.device.bus.current
  unfolding activated
  current_activated = current_advanced (staged_in k w).luts (staged_in k w).device.now glassThen ∙ current_staged

  regs_then : (activated k w).device.regs ≡ (staged_in k w).device.regs
  unfolding activated
  regs_then = regs_advanced (staged_in k w).luts (staged_in k w).device.now glassThen

  regs_staged : (staged_in k w).device.regs ≡ with_loaded w.device.regs (staged_in k w).device.regs.temperature (staged_in k w).device.regs.lut
      (staged_in k w).device.regs.waveform
  unfolding staged run_settled
  regs_staged = refl

  -- of the registers it changes the temperature, the LUT and the record of the waveform loaded alone
  pub regs_activated : (activated k w).device.regs
      ≡ with_loaded w.device.regs (activated k w).device.regs.temperature (activated k w).device.regs.lut (activated k w).device.regs.waveform
  regs_activated =
      regs_then ∙ regs_staged ∙ sym (ap (λ (r : Registers). with_loaded w.device.regs r.temperature r.lut r.waveform) regs_then)

-- the journal, the log and the temperature change as in the stages
module _ (Q : ℕ → Entries → Type 0)
    (reports : (t : ℕ) (e : Entries) (time : ℕ) (kind : DiagnosticKind) → Q t e → Q t (reported e time kind))
    (loads : (t register : ℕ) (e : Entries) → Q t e → Q (register % 4096) e) where
  -- of a display started or not
  abbrev Shown : Displayed → Type 0
  Shown x = Q x.run.temperature (entries x.run.journal x.log)

  -- of a step and of a run
  abbrev After : Step → Type 0
  After = Holds Q reports loads

  abbrev AfterRun : List ℕ → Run → Type 0
  AfterRun = HoldsOf Q reports loads

  warned_holds : (time : ℕ) (two : Bool) (options : List ℕ) (s : Step) → After s → After (warned time two options s)
  unfolding warned
  warned_holds time two options s h =
      either After (two && bit_of (get_or options 5 0) 6) (noted time RamPingPong s) s (noted_holds Q reports loads time RamPingPong s h) h

  module _ (black_white red gates : List ℕ) (d : Ssd1677) where
    begun_holds : (two : Bool) (s : Step) (luts : List ℕ) → After s → Shown (displayBegun black_white red gates d two s luts)
    unfolding displayBegun
    begun_holds two s luts h =
        let ns = duration_of (waveform_of s.run.lut d.config.timing.frame_period) in
        let a = warned d.now two d.regs.display_option s in
        waited_holds Q reports loads ns a.run a.log (warned_holds d.now two d.regs.display_option s h)

    shown_holds : (wanted two : Bool) (s : Step) (luts : List ℕ) → After s → Shown (displayShown black_white red gates d wanted two s luts)
    unfolding displayShown
    shown_holds wanted two s luts h =
        let x = displayBegun black_white red gates d two s luts in
        let unpowered = unchanged d.display luts (noted d.now (WithoutAnalog stage.Display) s) in
        let unclocked = unchanged d.display luts (noted d.now (WithoutClock stage.Display) s) in
        either Shown (wanted && s.run.waveform_found) (pick s.run.clock (pick s.run.analog x unpowered) unclocked)
        (unchanged d.display luts s)
        (either Shown s.run.clock (pick s.run.analog x unpowered) unclocked
        (either Shown s.run.analog x unpowered (begun_holds two s luts h) (noted_holds Q reports loads d.now (WithoutAnalog stage.Display) s h))
        (noted_holds Q reports loads d.now (WithoutClock stage.Display) s h))
        h

  analog_off_holds : (wanted : Bool) (ns : ℕ) (r : Run) (log : List ℕ) → AfterRun log r → AfterRun log (analog_off wanted ns r)
  unfolding analog_off
  analog_off_holds wanted ns r log h =
      either (AfterRun log) (wanted && r.analog) (waited ns (with_analog false r)) r (waited_holds Q reports loads ns (with_analog false r) log h) h

  clock_off_holds : (wanted : Bool) (r : Run) (log : List ℕ) → AfterRun log r → AfterRun log (clock_off wanted r)
  unfolding clock_off
  clock_off_holds wanted r log h = either (AfterRun log) wanted (with_clock false r) r h h

  module _ (k : Lent) (w : WithBuffers) where
    staged_holds : Q w.device.regs.temperature (entries w.device.journal w.log)
        → Q (staged_in k w).device.regs.temperature (entries (staged_in k w).device.journal (staged_in k w).log)
    unfolding staged run_settled
    staged_holds h =
        let s = with_luts w.device w.luts w.log in
        let control = control_of w.device.regs.update_control_2 in
        let x = during k s control in
        let a = analog_off control.analog_off w.device.config.timing.analog_off x.run in
        clock_off_holds control.clock_off a x.log
        (analog_off_holds control.analog_off w.device.config.timing.analog_off x.run x.log
        (shown_holds k.black_white k.red k.gates w.device control.display control.mode_two (before k s control) w.luts
        (loaded_holds Q reports loads w.device.now control w.device.regs.sensor w.device.config k.otp (step (run_of w.device) w.log) h)))

    pub activated_holds : Q w.device.regs.temperature (entries w.device.journal w.log)
        → Q (activated k w).device.regs.temperature (entries (activated k w).device.journal (activated k w).log)
    unfolding activated
    activated_holds h =
        subst (λ (j : Journal). Q (activated k w).device.regs.temperature (entries j (staged_in k w).log))
        (sym (journal_advanced (staged_in k w).luts (staged_in k w).device.now (glassThen k w)))
        (subst (λ (r : Registers). Q r.temperature (entries (staged_in k w).device.journal (staged_in k w).log)) (sym (regs_then k w)) (staged_holds h))
