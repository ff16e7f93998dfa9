-- What each return of the code hands over, over plain variables. Assumes nothing.
use Rattle.std.specs.Prelude.{Option, Some}
use Prim.Native.Nat.{ℕ, ◌+◌, ◌/◌, min}
use mathlib.Core.Path.{◌≡◌, sym, ap, ◌∙◌}
use mathlib.Core.Bool.{Bool, true, false, ◌&&◌, not}
use mathlib.Core.List.{List}
use lib.Dec.{eqb}
use lib.Bits.{bit_and}
use lib.ListN.{length, get_or}
use Rattle.numbers.specs.Choice.{bit_of}
use Rattle.numbers.specs.Lists.{tab}
use Rattle.numbers.specs.Saturation.{largest}
use Rattle.numbers.proofs.Cases.{took, passed}
use Rattle.numbers.proofs.Fields.{test_bit}
use Rattle.glass.specs.declared.RefreshKind.{RefreshKind}
use Rattle.waveform.specs.Setting.{waveform_of}
use Rattle.waveform.specs.Duration.{duration_of}
use Rattle.diagnostic.specs.declared.DiagnosticKind.TheVariants.{WithoutClock, WithoutAnalog}
use Rattle.diagnostic.specs.declared.Stage.TheVariants as stage
use Rattle.scan.specs.declared.PlaneOption.{PlaneOption}
use Rattle.scan.specs.declared.Scan.{Scan}
use Rattle.scan.specs.Luts.{option_of, lut_of}
use Rattle.panel.specs.declared.Display.{Display}
use Rattle.device.specs.declared.Ssd1677.{Ssd1677}
use Rattle.device.specs.declared.Registers.{Registers}
use Rattle.device.specs.declared.Bus.{Bus}
use Rattle.device.specs.Parts.{with_activated, with_loaded}
use Rattle.world.specs.World.{WithGlass, with_glass, WithBuffers, Lent}
use Rattle.moment.specs.Moments.{after_ns, busy_for}
use Rattle.clock.specs.Advance.{advanced}
use Rattle.stages.specs.declared.Control.{Control}
use Rattle.stages.specs.declared.Run.{Run}
use Rattle.stages.specs.Run.{control_of, Step, step, noted, waited}
use Rattle.stages.specs.Stages.{loaded}
use Rattle.activation.specs.Display.{refresh_kind_of, scan_of, warned, display_of, Displayed, displayed, unchanged, displayBegun, displayShown}
use Rattle.activation.specs.Activation.{analog_off, clock_off, run_of, run_settled, WithLuts, with_luts, staged, both_left, activated}

pub scans : (r : Registers) (a b : PlaneOption) → a ≡ option_of (get_or r.update_control_1 0 0 / 16) → b ≡ option_of (get_or r.update_control_1 0 0)
    → record { lines = r.mux + 1; order = r.gate_scan; red = a; black_white = b } ≡ scan_of r
scans r a b e₁ e₂ = rw (e₁, e₂)

-- the test of RAM ping-pong
pub ping_pong : (two : Bool) (n : ℕ) (b : Bool) → two && not (eqb (bit_and n 64) 0) ≡ b → two && bit_of n 6 ≡ b
unfolding bit_of
ping_pong two n b e = ap (λ (x : Bool). two && x) (sym (test_bit 6 n)) ∙ e

pub displays : (setting : List ℕ) (border frequency time before ns : ℕ) (two : Bool) (a w b : ℕ) (k : RefreshKind)
    → a ≡ after_ns frequency time before → w ≡ min (before + ns) (largest 64) → b ≡ after_ns frequency time w → k ≡ refresh_kind_of two
    → record { started = a; ends = b; kind = k; setting = setting; border = border } ≡ display_of setting border frequency time before ns two
unfolding display_of
displays setting border frequency time before ns two a w b k e₁ e₂ e₃ e₄ = rw (e₁, e₃, e₂, e₄)

module _ (black_white red gates : List ℕ) (d : Ssd1677) where
  pub begins : (two : Bool) (s : Step) (luts : List ℕ) (scan : Scan) (a : Step) (ns : ℕ) (u : List ℕ) (x : Display) (r : Run)
      → scan ≡ scan_of d.regs → a ≡ warned d.now two d.regs.display_option s
      → ns ≡ duration_of (waveform_of s.run.lut d.config.timing.frame_period)
      → u ≡ tab (length luts) (lut_of gates red black_white d.config.panel scan)
      → x ≡ display_of s.run.lut d.regs.border d.config.frequency d.now s.run.ns ns two
      → r ≡ waited ns a.run → displayed r (Some x) u a.log ≡ displayBegun black_white red gates d two s luts
  unfolding displayBegun
  begins two s luts scan a ns u x r e₁ e₂ e₃ e₄ e₅ e₆ = rw (e₆, e₅, e₄, e₁, e₂, e₃)

  module _ (wanted two : Bool) (s : Step) (luts : List ℕ) (is : wanted && s.run.waveform_found ≡ true) where
    pub shows : (z : Displayed) → s.run.clock ≡ true → s.run.analog ≡ true → z ≡ displayBegun black_white red gates d two s luts
        → z ≡ displayShown black_white red gates d wanted two s luts
    unfolding displayShown
    shows z p q e = took _ _ _ _ is (took _ _ _ _ p (took _ _ _ _ q e))

    pub no_analog : (z : Step) → s.run.clock ≡ true → s.run.analog ≡ false → z ≡ noted d.now (WithoutAnalog stage.Display) s
        → unchanged d.display luts z ≡ displayShown black_white red gates d wanted two s luts
    unfolding displayShown
    no_analog z p q e = took _ _ _ _ is (took _ _ _ _ p (passed _ _ _ _ q (ap (λ (x : Step). unchanged d.display luts x) e)))

    pub no_clock : (z : Step) → s.run.clock ≡ false → z ≡ noted d.now (WithoutClock stage.Display) s
        → unchanged d.display luts z ≡ displayShown black_white red gates d wanted two s luts
    unfolding displayShown
    no_clock z p e = took _ _ _ _ is (passed _ _ _ _ p (ap (λ (x : Step). unchanged d.display luts x) e))

  pub shows_not : (wanted two : Bool) (s : Step) (luts : List ℕ) → wanted && s.run.waveform_found ≡ false
      → unchanged d.display luts s ≡ displayShown black_white red gates d wanted two s luts
  unfolding displayShown
  shows_not wanted two s luts h = rw h

pub settles : (d : Ssd1677) (r : Run) (x : Option Display) (g : Registers) (b : Bus) (z : Ssd1677) → g ≡ with_loaded d.regs r.temperature r.lut r.waveform
    → b ≡ busy_for d.bus d.config.frequency d.now r.ns → z ≡ with_activated d g b r.clock r.analog x r.journal → z ≡ run_settled d r x
unfolding run_settled
settles d r x g b z e₁ e₂ e₃ = rw (e₃, e₂, e₁)

pub stages : (k : Lent) (s : WithLuts) (control : Control) (r : Run) (a : Step) (t : Displayed) (b c : Run) (z : Ssd1677)
    → control ≡ control_of s.device.regs.update_control_2 → r ≡ run_of s.device
    → a ≡ loaded s.device.now control s.device.regs.sensor s.device.config k.otp (step r s.log)
    → t ≡ displayShown k.black_white k.red k.gates s.device control.display control.mode_two a s.luts
    → b ≡ analog_off control.analog_off s.device.config.timing.analog_off t.run → c ≡ clock_off control.clock_off b
    → z ≡ run_settled s.device c t.display
    → with_luts z t.luts t.log ≡ staged k s
unfolding staged
stages k s control r a t b c z e₁ e₂ e₃ e₄ e₅ e₆ e₇ = rw (e₇, e₆, e₅, e₄, e₃, e₂, e₁)

pub activates : (k : Lent) (w : WithBuffers) (s : WithLuts) (g : WithGlass) → s ≡ staged k (with_luts w.device w.luts w.log)
    → g ≡ advanced s.luts s.device.now (with_glass s.device w.states w.picture)
    → both_left s g ≡ activated k w
unfolding activated
activates k w s g e₁ e₂ = rw (e₂, e₁)
