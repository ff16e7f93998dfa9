-- The reports of the display of 0x20 and of all its stages. Assumes nothing.
use Prim.Native.Nat.{ℕ}
use mathlib.Core.Path.{◌≡◌, refl, ◌∙◌}
use mathlib.Core.Bool.{Bool, true, false, ◌&&◌}
use mathlib.Core.List.{List, []}
use lib.ListN.{get_or}
use Rattle.numbers.specs.Choice.{pick, bit_of}
use Rattle.diagnostic.specs.declared.DiagnosticKind.{DiagnosticKind}
use Rattle.diagnostic.specs.declared.DiagnosticKind.TheVariants.{WithoutClock, WithoutAnalog, RamPingPong}
use Rattle.diagnostic.specs.declared.Stage.TheVariants as stage
use Rattle.device.specs.declared.Ssd1677.{Ssd1677}
use Rattle.world.specs.World.{Lent}
use Rattle.stages.specs.declared.Control.{Control}
use Rattle.stages.specs.declared.Run.{Run}
use Rattle.stages.specs.Run.{control_of, Step, step, with_clock, with_analog, noted, waited}
use Rattle.stages.specs.Stages.{loaded}
use Rattle.activation.specs.Display.{Displayed, unchanged, warned, displayBegun, displayShown}
use Rattle.activation.specs.Activation.{WithLuts, run_of, analog_off, clock_off, run_settled, during, after, staged}
use Rattle.history.proofs.Blind.{plain}
use Rattle.history.proofs.Stages.{plain_step, plain_displayed, plain_luts}
use Rattle.history.proofs.Display.{blind_begun, staged_plain}
use Rattle.history.proofs.Tells.{Bundle, Tells, tells_none, tells_pick, tells_then}
use Rattle.history.proofs.TellsStages.{in_step, TellsStep, tells_noted, tells_loaded}

abbrev in_displayed : Bundle Displayed
in_displayed = record { plain = plain_displayed; journal = λ (t : Displayed). t.run.journal }

abbrev pub in_luts : Bundle WithLuts
in_luts = record { plain = plain_luts; journal = λ (s : WithLuts). s.device.journal }

-- 37
tells_warned : (time : ℕ) (two : Bool) (options : List ℕ) → TellsStep 1 (warned time two options)
unfolding warned
tells_warned time two options =
    tells_pick in_step in_step 1 0 (λ _. two && bit_of (get_or options 5 0) 6) (noted time RamPingPong) (λ s. s) (λ s. refl) (tells_noted time (λ _. RamPingPong))
    (tells_none in_step in_step (λ s. s) (λ s. refl) (λ s. refl))

module _ (black_white red gates : List ℕ) (d : Ssd1677) (luts : List ℕ) where
  tells_unchanged : Tells in_step in_displayed 0 (unchanged d.display luts)
  tells_unchanged = tells_none in_step in_displayed (unchanged d.display luts) (λ s. refl) (λ s. refl)

  tells_unlit : (kind : DiagnosticKind) → Tells in_step in_displayed 1 (λ (s : Step). unchanged d.display luts (noted d.now kind s))
  tells_unlit kind = tells_then in_step in_step in_displayed 1 0 (noted d.now kind) (unchanged d.display luts) (tells_noted d.now (λ _. kind)) tells_unchanged

  tells_begun : (two : Bool) → Tells in_step in_displayed 1 (λ (s : Step). displayBegun black_white red gates d two s luts)
  unfolding displayBegun waited
  tells_begun two =
      let w = tells_warned d.now two d.regs.display_option in
      record { blind = blind_begun black_white red gates d luts two; makes = w.makes; is = w.is; adds = w.adds }

  -- 33, 34 or 37
  tells_shown : (wanted two : Bool) → Tells in_step in_displayed 3 (λ (s : Step). displayShown black_white red gates d wanted two s luts)
  unfolding displayShown
  tells_shown wanted two =
      let lit : Step → Displayed = λ (s : Step). displayBegun black_white red gates d two s luts in
      let no_analog : Step → Displayed = λ (s : Step). unchanged d.display luts (noted d.now (WithoutAnalog stage.Display) s) in
      let no_clock : Step → Displayed = λ (s : Step). unchanged d.display luts (noted d.now (WithoutClock stage.Display) s) in
      tells_pick in_step in_displayed 3 0 (λ s. wanted && s.run.waveform_found)
      (λ s. pick s.run.clock (pick s.run.analog (lit s) (no_analog s)) (no_clock s))
      (unchanged d.display luts)
      (λ s. refl)
      (tells_pick in_step in_displayed 2 1 (λ s. s.run.clock) (λ s. pick s.run.analog (lit s) (no_analog s)) no_clock (λ s. refl)
      (tells_pick in_step in_displayed 1 1 (λ s. s.run.analog) lit no_analog (λ s. refl) (tells_begun two) (tells_unlit (WithoutAnalog stage.Display)))
      (tells_unlit (WithoutClock stage.Display)))
      tells_unchanged

-- ---- all the stages
-- up to the display, of a device
abbrev shows : Lent → Ssd1677 → List ℕ → Control → Step → Displayed
shows k d luts c x =
    displayShown k.black_white k.red k.gates d c.display c.mode_two (loaded d.now c d.regs.sensor d.config k.otp x) luts

tells_shows : (k : Lent) (d : Ssd1677) (luts : List ℕ) (c : Control) → Tells in_step in_displayed 8 (shows k d luts c)
tells_shows k d luts c =
    tells_then in_step in_step in_displayed 5 3 (loaded d.now c d.regs.sensor d.config k.otp)
    (λ (x : Step). displayShown k.black_white k.red k.gates d c.display c.mode_two x luts)
    (tells_loaded d.now c d.regs.sensor d.config k.otp)
    (tells_shown k.black_white k.red k.gates d luts c.display c.mode_two)

-- the journal and the log are not looked at
shows_plain : (k : Lent) (d : Ssd1677) (luts : List ℕ) (c : Control) (x : Step) → shows k d luts c x ≡ shows k (plain d) luts c x
unfolding displayShown displayBegun
shows_plain k d luts c x = refl

-- the supplies' end reports nothing
off_same : (k : Lent) (s : WithLuts) (c : Control) (t : Displayed) → (after k s c t).device.journal ≡ t.run.journal
unfolding run_settled clock_off analog_off waited
off_same k s c t = by c.clock_off (c.analog_off && t.run.analog)
  where
    kept : Bool → Run → Run
    kept b r = pick b (waited s.device.config.timing.analog_off (with_analog false r)) r

    off : Bool → Bool → Run → Run
    off a b r = pick a (with_clock false (kept b r)) (kept b r)

    by : (a b : Bool) → (off a b t.run).journal ≡ t.run.journal
    by true true = refl
    by true false = refl
    by false true = refl
    by false false = refl

pub tells_staged : (k : Lent) → Tells in_luts in_luts 8 (staged k)
unfolding staged
tells_staged k =
    record {
      blind = staged_plain k;
      makes = λ (s : WithLuts). (of s).makes (plain_step (step (run_of (plain s.device)) []));
      is = λ (s : WithLuts).
          off_same k s (control_of s.device.regs.update_control_2) (during k s (control_of s.device.regs.update_control_2))
          ∙ (λ i. (shows_plain k s.device s.luts (control_of s.device.regs.update_control_2) (step (run_of s.device) s.log) i).run.journal)
          ∙ (of s).is (step (run_of s.device) s.log);
      adds = λ (s : WithLuts). (of s).adds (plain_step (step (run_of (plain s.device)) []));
    }
  where
    of : (s : WithLuts)
        → Tells in_step in_displayed 8 (shows k (plain s.device) s.luts (control_of s.device.regs.update_control_2))
    of s = tells_shows k (plain s.device) s.luts (control_of s.device.regs.update_control_2)
