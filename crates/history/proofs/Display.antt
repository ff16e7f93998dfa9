-- The display of 0x20 and all its stages: what the core keeps of them does not look at the glass, the journal or the log. Assumes nothing.
use Rattle.std.specs.Prelude.{Some}
use Prim.Native.Nat.{ℕ}
use mathlib.Core.Path.{◌≡◌, refl, sym, ap, ◌∙◌}
use mathlib.Core.Bool.{Bool, true, false, ◌&&◌}
use mathlib.Core.List.{List, []}
use lib.ListN.{length, get_or}
use Rattle.numbers.specs.Choice.{pick, bit_of}
use Rattle.numbers.specs.Lists.{tab}
use Rattle.waveform.specs.Setting.{waveform_of}
use Rattle.waveform.specs.Duration.{duration_of}
use Rattle.scan.specs.Luts.{lut_of}
use Rattle.diagnostic.specs.declared.DiagnosticKind.{DiagnosticKind}
use Rattle.diagnostic.specs.declared.DiagnosticKind.TheVariants.{WithoutClock, WithoutAnalog, RamPingPong}
use Rattle.diagnostic.specs.declared.Stage.TheVariants as stage
use Rattle.device.specs.declared.Ssd1677.{Ssd1677}
use Rattle.world.specs.World.{Lent}
use Rattle.stages.specs.declared.Control.{Control}
use Rattle.stages.specs.declared.Run.{Run}
use Rattle.stages.specs.Run.{control_of, Step, step, with_clock, with_analog, noted, waited}
use Rattle.stages.specs.Stages.{loaded}
use Rattle.activation.specs.Display.{Displayed, displayed, scan_of, unchanged, display_of, warned, displayBegun, displayShown}
use Rattle.activation.specs.Activation.{WithLuts, with_luts, run_of, analog_off, clock_off, run_settled, during, after, staged}
use Rattle.history.proofs.Blind.{Blind, blind_then, blind_pick}
use Rattle.history.proofs.Stages.{plain_step, plain_displayed, plain_luts, unbused, blind_loaded}

-- a diagnostic leaves what counts
plain_warned : (time : ℕ) (two : Bool) (options : List ℕ) (s : Step) → plain_step (warned time two options s) ≡ plain_step s
unfolding warned noted
plain_warned time two options s = by (two && bit_of (get_or options 5 0) 6)
  where
    by : (b : Bool) → plain_step (pick b (noted time RamPingPong s) s) ≡ plain_step s
    by true = refl
    by false = refl

module _ (black_white red gates : List ℕ) (d : Ssd1677) (luts : List ℕ) where
  -- a display that starts with a step, from what the step before was
  abbrev from : Bool → Step → Step → Displayed
  from two s a =
      let ns = duration_of (waveform_of s.run.lut d.config.timing.frame_period) in
      displayed (waited ns a.run) (Some (display_of s.run.lut d.regs.border d.config.frequency d.now s.run.ns ns two))
      (tab (length luts) (lut_of gates red black_white d.config.panel (scan_of d.regs))) a.log

  pub blind_begun : (two : Bool) → Blind plain_step plain_displayed (λ (s : Step). displayBegun black_white red gates d two s luts)
  unfolding displayBegun waited
  blind_begun two s =
      ap (λ (a : Step). plain_displayed (from two s a))
      (plain_warned d.now two d.regs.display_option s ∙ sym (plain_warned d.now two d.regs.display_option (plain_step s)))

  blind_unlit : (kind : DiagnosticKind) → Blind plain_step plain_displayed (λ (s : Step). unchanged d.display luts (noted d.now kind s))
  unfolding noted
  blind_unlit kind s = refl

  blind_shown : (wanted two : Bool) → Blind plain_step plain_displayed (λ (s : Step). displayShown black_white red gates d wanted two s luts)
  unfolding displayShown
  blind_shown wanted two =
      let lit : Step → Displayed = λ (s : Step). displayBegun black_white red gates d two s luts in
      let no_analog : Step → Displayed = λ (s : Step). unchanged d.display luts (noted d.now (WithoutAnalog stage.Display) s) in
      let no_clock : Step → Displayed = λ (s : Step). unchanged d.display luts (noted d.now (WithoutClock stage.Display) s) in
      blind_pick plain_step plain_displayed (λ s. wanted && s.run.waveform_found)
      (λ s. pick s.run.clock (pick s.run.analog (lit s) (no_analog s)) (no_clock s))
      (λ s. unchanged d.display luts s)
      (λ s. refl)
      (blind_pick plain_step plain_displayed (λ s. s.run.clock) (λ s. pick s.run.analog (lit s) (no_analog s)) no_clock (λ s. refl)
      (blind_pick plain_step plain_displayed (λ s. s.run.analog) lit no_analog (λ s. refl) (blind_begun two) (blind_unlit (WithoutAnalog stage.Display)))
      (blind_unlit (WithoutClock stage.Display)))
      (λ s. refl)

  -- the bus is not looked at
  shown_unbused : (wanted two : Bool) (s : Step) → displayShown black_white red gates d wanted two s luts ≡ displayShown black_white red gates (unbused d) wanted two s luts
  unfolding displayShown displayBegun
  shown_unbused wanted two s = refl

-- ---- all the stages
module _ (k : Lent) (s : WithLuts) where
  -- what starts is what a device with nothing but what counts would start
  pub during_plain : (c : Control) → plain_displayed (during k s c) ≡ plain_displayed (during k (with_luts (unbused s.device) s.luts []) c)
  during_plain c =
      let d = s.device in
      let load = loaded d.now c d.regs.sensor d.config k.otp in
      let show : Step → Displayed = λ (x : Step). displayShown k.black_white k.red k.gates d c.display c.mode_two x s.luts in
      blind_then plain_step plain_step plain_displayed load show (blind_loaded d.now c d.regs.sensor d.config k.otp)
      (blind_shown k.black_white k.red k.gates d s.luts c.display c.mode_two)
      (step (run_of d) s.log)
      ∙ ap plain_displayed (shown_unbused k.black_white k.red k.gates d s.luts c.display c.mode_two (load (plain_step (step (run_of d) s.log))))

  after_plain : (c : Control) (t : Displayed) → plain_luts (after k s c t) ≡ plain_luts (after k (plain_luts s) c (plain_displayed t))
  unfolding run_settled clock_off analog_off waited
  after_plain c t = by c.clock_off (c.analog_off && t.run.analog)
    where
      put : WithLuts → Displayed → Run → WithLuts
      put s t r = with_luts (run_settled s.device r t.display) t.luts t.log

      off : Bool → Bool → Run → Run
      off a b r = pick a (with_clock false (pick b (waited s.device.config.timing.analog_off (with_analog false r)) r)) (pick b (waited s.device.config.timing.analog_off (with_analog false r)) r)

      by : (a b : Bool) → plain_luts (put s t (off a b t.run)) ≡ plain_luts (put (plain_luts s) (plain_displayed t) (off a b (plain_displayed t).run))
      by true true = refl
      by true false = refl
      by false true = refl
      by false false = refl

pub staged_plain : (k : Lent) (s : WithLuts) → plain_luts (staged k s) ≡ plain_luts (staged k (plain_luts s))
unfolding staged
staged_plain k s =
    let c = control_of s.device.regs.update_control_2 in
    after_plain k s c (during k s c)
    ∙ ap (λ (t : Displayed). plain_luts (after k (plain_luts s) c t)) (during_plain k s c ∙ sym (during_plain k (plain_luts s) c))
    ∙ sym (after_plain k (plain_luts s) c (during k (plain_luts s) c))
