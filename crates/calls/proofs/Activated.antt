-- An activation leaves BUSY high to the end of the display that it starts: BUSY lasts as long as all the stages, the display among them.
-- Assumes nothing.
use Rattle.std.specs.Prelude.{Option, Some, None}
use Prim.Native.Nat.{ℕ, ◌+◌, ◌≤◌, ◌<◌, min}
use mathlib.Core.Path.{◌≡◌, refl, sym, ap, subst}
use mathlib.Core.Bool.{Bool, true, false, ◌&&◌}
use mathlib.Core.List.{List}
use native.Mathlib.Omega.{arith}
use lib.ListN.{get_or}
use borrow.Author.Tests.{lt-ltb}
use Rattle.numbers.specs.Choice.{pick, bit_of}
use Rattle.numbers.specs.Saturation.{largest}
use Rattle.waveform.specs.Setting.{waveform_of}
use Rattle.waveform.specs.Duration.{duration_of}
use Rattle.diagnostic.specs.declared.DiagnosticKind.TheVariants.{WithoutClock, WithoutAnalog, RamPingPong}
use Rattle.diagnostic.specs.declared.Stage.TheVariants as stage
use Rattle.panel.specs.declared.Display.{Display}
use Rattle.device.specs.declared.Bus.{Bus}
use Rattle.device.specs.declared.Power.TheVariants.{Running}
use Rattle.device.specs.declared.Ssd1677.{Ssd1677}
use Rattle.device.specs.Parts.{with_until, with_loaded, with_activated}
use Rattle.world.specs.World.{with_glass, WithBuffers, Lent}
use Rattle.moment.specs.Moments.{after_ns, busy_for}
use Rattle.moment.proofs.Spans.{after_longer, some_span}
use Rattle.stages.specs.declared.Run.{Run}
use Rattle.stages.specs.Run.{control_of, Step, noted, waited, with_clock, with_analog}
use Rattle.stages_laws.proofs.Kept.{either}
use Rattle.activation.specs.Display.{warned, display_of, Displayed, unchanged, displayBegun, displayShown}
use Rattle.activation.specs.Activation.{analog_off, clock_off, run_settled, with_luts, before, during, staged, staged_in, activated}
use Rattle.calls.specs.Sound.{inert, UnderWay, Held}
use Rattle.calls.proofs.Clock.{Due, held_advanced}

-- ---- BUSY rises for a span
rises : (bus : Bus) (frequency moment ns : ℕ) → 0 < ns → busy_for bus frequency moment ns ≡ with_until bus (Some (after_ns frequency moment ns))
unfolding busy_for
rises bus frequency moment ns h = rw (lt-ltb 0 ns h)

-- ---- the display, if there is one, ends within the time of the stages so far, which a u64 holds
record TimedRun (d : Ssd1677) (r : Run) (display : Display) : Type 0 where
  within : display.ends ≤ after_ns d.config.frequency d.now r.ns
  held : r.ns ≤ largest 64

abbrev TimedBy : Ssd1677 → Run → Option Display → Type 0
TimedBy d r None = Unit {0}
TimedBy d r (Some display) = TimedRun d r display

abbrev Timed : Ssd1677 → Displayed → Type 0
Timed d t = TimedBy d t.run t.display

untimed : (d : Ssd1677) (r : Run) (o : Option Display) → o ≡ None → TimedBy d r o
untimed d r o is = subst (TimedBy d r) (sym is) tt

warned_ns : (time : ℕ) (two : Bool) (options : List ℕ) (s : Step) → (warned time two options s).run.ns ≡ s.run.ns
unfolding warned noted
warned_ns time two options s =
    either (λ (x : Step). x.run.ns ≡ s.run.ns) (two && bit_of (get_or options 5 0) 6) (noted time RamPingPong s) s refl refl

same_end : (frequency moment x y : ℕ) → y ≡ x → after_ns frequency moment x ≤ after_ns frequency moment y
same_end frequency moment x y e = rw e (omega arith)

module _ (black_white red gates : List ℕ) (d : Ssd1677) (two : Bool) (s : Step) (luts : List ℕ) where
  begun_timed : Timed d (displayBegun black_white red gates d two s luts)
  unfolding displayBegun display_of waited
  begun_timed =
      let ns = duration_of (waveform_of s.run.lut d.config.timing.frame_period) in
      let a = warned d.now two d.regs.display_option s in
      record {
        within =
            same_end d.config.frequency d.now (min (s.run.ns + ns) (largest 64)) (min (a.run.ns + ns) (largest 64))
            (ap (λ (n : ℕ). min (n + ns) (largest 64)) (warned_ns d.now two d.regs.display_option s));
        held = omega arith;
      }

  -- none is in progress but one that this activation starts
  shown_timed : (wanted : Bool) → d.display ≡ None → Timed d (displayShown black_white red gates d wanted two s luts)
  unfolding displayShown
  shown_timed wanted still =
      let x = displayBegun black_white red gates d two s luts in
      let unpowered = unchanged d.display luts (noted d.now (WithoutAnalog stage.Display) s) in
      let unclocked = unchanged d.display luts (noted d.now (WithoutClock stage.Display) s) in
      either (Timed d) (wanted && s.run.waveform_found) (pick s.run.clock (pick s.run.analog x unpowered) unclocked)
      (unchanged d.display luts s)
      (either (Timed d) s.run.clock (pick s.run.analog x unpowered) unclocked
      (either (Timed d) s.run.analog x unpowered begun_timed (untimed d unpowered.run d.display still))
      (untimed d unclocked.run d.display still))
      (untimed d s.run d.display still)

-- ---- the supplies' end makes it no shorter
analog_longer : (frequency moment : ℕ) (wanted : Bool) (ns : ℕ) (r : Run) → r.ns ≤ largest 64
    → after_ns frequency moment r.ns ≤ after_ns frequency moment (analog_off wanted ns r).ns
unfolding analog_off waited
analog_longer frequency moment wanted ns r held =
    either (λ (x : Run). after_ns frequency moment r.ns ≤ after_ns frequency moment x.ns) (wanted && r.analog)
    (waited ns (with_analog false r)) r (after_longer frequency moment r.ns ns held) (omega arith)

clock_ns : (wanted : Bool) (r : Run) → (clock_off wanted r).ns ≡ r.ns
unfolding clock_off
clock_ns wanted r = either (λ (x : Run). x.ns ≡ r.ns) wanted (with_clock false r) r refl refl

off_longer : (frequency moment : ℕ) (analog clock : Bool) (ns : ℕ) (r : Run) → r.ns ≤ largest 64
    → after_ns frequency moment r.ns ≤ after_ns frequency moment (clock_off clock (analog_off analog ns r)).ns
off_longer frequency moment analog clock ns r held =
    rw (clock_ns clock (analog_off analog ns r)) (analog_longer frequency moment analog ns r held)

-- ---- BUSY
settled_due : (d : Ssd1677) (r : Run) (o : Option Display) → d.bus.power ≡ Running → inert d.bus.current ≡ true
    → ((display : Display) → o ≡ Some display → display.ends ≤ after_ns d.config.frequency d.now r.ns) → Due (run_settled d r o)
unfolding run_settled
settled_due d r o power current timed display is ahead =
    let f = d.config.frequency in
    let ends = timed display is in
    let high = rises d.bus f d.now r.ns (some_span f d.now r.ns (omega arith)) in
    subst (λ (b : Bus). UnderWay (with_activated d (with_loaded d.regs r.temperature r.lut r.waveform) b r.clock r.analog o r.journal) display)
    (sym high)
    (record {
      shown = is;
      until = after_ns f d.now r.ns;
      busy = refl;
      to_its_end = ends;
      before_its_end = ahead;
      runs = power;
      inert_command = current;
    })

module _ (k : Lent) (w : WithBuffers) (power : w.device.bus.power ≡ Running) (current : inert w.device.bus.current ≡ true)
    (still : w.device.display ≡ None) where
  staged_due : Due (staged_in k w).device
  unfolding staged
  staged_due =
      let d = w.device in
      let s = with_luts d w.luts w.log in
      let control = control_of d.regs.update_control_2 in
      let x = during k s control in
      let ns = d.config.timing.analog_off in
      settled_due d (clock_off control.clock_off (analog_off control.analog_off ns x.run)) x.display power current
      (λ display is.
      let shows : TimedRun d x.run display =
      subst (TimedBy d x.run) is (shown_timed k.black_white k.red k.gates d control.mode_two (before k s control) w.luts control.display still) in
      let off = off_longer d.config.frequency d.now control.analog_off control.clock_off ns x.run shows.held in
      omega (arith, shows.within))

  pub held_activated : Held (activated k w).device
  unfolding activated
  held_activated =
      held_advanced (staged_in k w).luts (staged_in k w).device.now (with_glass (staged_in k w).device w.states w.picture) staged_due
