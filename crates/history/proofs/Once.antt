-- 0x20 beside the whole numbers: a refresh whose end the clock has already reached is worked in at once. Assumes nothing.
use Prim.Native.Nat.{ℕ, ◌<◌, max}
use mathlib.Core.Path.{◌≡◌, sym, ap, subst, ◌∙◌}
use mathlib.Core.Bool.{Bool, true, false, ◌&&◌, not}
use mathlib.Core.List.{List, []}
use native.Mathlib.Omega.{arith}
use Rattle.numbers.specs.Choice.{pick}
use Rattle.numbers.specs.Rows.{lookup}
use Rattle.waveform.specs.Setting.{waveform_of}
use Rattle.waveform.specs.Duration.{duration_of}
use Rattle.diagnostic.specs.declared.DiagnosticKind.TheVariants.{WhileBusy, WhileAsleep, WhileInReset, WithoutClock, WithoutAnalog}
use Rattle.diagnostic.specs.declared.Stage.TheVariants as stage
use Rattle.device.specs.declared.Kind.TheVariants.{Write}
use Rattle.device.specs.declared.Params.TheVariants.{Exactly}
use Rattle.device.specs.declared.Power.{Power}
use Rattle.device.specs.declared.Power.TheVariants.{Running, Asleep, InReset}
use Rattle.device.specs.declared.Ssd1677.{Ssd1677}
use Rattle.world.specs.World.{World, with_glass, WithBuffers, Lent, lent_of, on, device_in_buffers}
use Rattle.command.specs.Table.{rows, kind_of}
use Rattle.busy.specs.Busy.{pending}
use Rattle.moment.proofs.Spans.{cut_short}
use Rattle.stages.specs.Run.{control_of, Step, noted}
use Rattle.activation.specs.Display.{Displayed, display_of, displayBegun, displayShown, unchanged}
use Rattle.activation.specs.Activation.{WithLuts, with_luts, run_settled, before, during, staged, staged_in, activated}
use Rattle.begin.specs.Begin as begin
use Rattle.history.specs.Reckon.{Core, core_of, device_of, bare, Worked, number_over}
use Rattle.history.proofs.Blind.{seen_buffers}
use Rattle.history.proofs.Stages.{unbused}
use Rattle.history.proofs.Display.{during_plain}
use Rattle.history.proofs.Begun.{told, still_told}
use Rattle.history.proofs.Shows.{Marks, Short, Shows, over, ends_by, ends_in, advance_shows}

-- ---- the stages and the end of the display
-- a display that starts is short, by the span law of a cut; else it is the one before
shown_short : (black_white red gates : List ℕ) (d : Ssd1677) (wanted two : Bool) (s : Step) (luts : List ℕ) → 0 < d.config.frequency
    → Short d.config.frequency d.display → Short d.config.frequency (displayShown black_white red gates d wanted two s luts).display
unfolding displayShown displayBegun display_of
shown_short black_white red gates d wanted two s luts ticks h = by (wanted && s.run.waveform_found) s.run.clock s.run.analog
  where
    by : (a b c : Bool)
        → Short d.config.frequency
        (pick a
        (pick b
        (pick c (displayBegun black_white red gates d two s luts) (unchanged d.display luts (noted d.now (WithoutAnalog stage.Display) s)))
        (unchanged d.display luts (noted d.now (WithoutClock stage.Display) s)))
        (unchanged d.display luts s)).display
    by true true true = cut_short d.config.frequency ticks d.now s.run.ns (duration_of (waveform_of s.run.lut d.config.timing.frame_period))
    by true true false = h
    by true false c = h
    by false b c = h

staged_short : (k : Lent) (s : WithLuts) → 0 < s.device.config.frequency → Short s.device.config.frequency s.device.display
    → Short s.device.config.frequency (staged k s).device.display
unfolding staged run_settled
staged_short k s ticks h =
    let c = control_of s.device.regs.update_control_2 in
    shown_short k.black_white k.red k.gates s.device c.display c.mode_two (before k s c) s.luts ticks h

-- what ends at once, by what starts
abbrev by_start : ℕ → Displayed → List Worked
by_start now t = ends_by t.luts now t.display

-- the same, of a device with nothing but what counts
abbrev pub once_in : Lent → Ssd1677 → List ℕ → List Worked
once_in k d luts = by_start d.now (during k (with_luts (unbused d) luts []) (control_of d.regs.update_control_2))

pub staged_once : (k : Lent) (s : WithLuts) → ends_in (staged k s).luts (staged k s).device.now (staged k s).device ≡ once_in k s.device s.luts
unfolding staged run_settled
staged_once k s =
    let c = control_of s.device.regs.update_control_2 in
    ap (λ (n : ℕ). by_start n (during k s c)) (same s.device.now) ∙ ap (by_start s.device.now) (during_plain k s c)
  where
    same : (n : ℕ) → max n n ≡ n
    same n = omega arith

-- what ends at once, of a core
abbrev pub at_once : List ℕ → Core → List Worked
at_once otp c =
    let s = staged (lent_of otp (bare c)) (with_luts (device_of c) c.luts []) in
    ends_by s.luts c.now s.device.display

pub at_once_is : (otp : List ℕ) (w : World) → at_once otp (core_of w) ≡ once_in (lent_of otp w) w.device w.luts
unfolding staged run_settled
at_once_is otp w =
    ap (by_start w.device.now)
    (during_plain (lent_of otp w) (with_luts (device_of (core_of w)) w.luts []) (control_of w.device.regs.update_control_2))

-- ---- 0x20
-- 0x20 reaches a chip that runs and is not busy
abbrev pub reaches : Power → Bool → Bool
reaches Running busy = not busy
reaches Asleep busy = false
reaches InReset busy = false

module _ (k : Lent) (number : Marks) where
  staged_shows : (w : WithBuffers) → Shows (seen_buffers w) number
      → Shows (seen_buffers (activated k w)) (over w.device.config (ends_in (staged_in k w).luts (staged_in k w).device.now (staged_in k w).device) number)
  unfolding activated staged run_settled
  staged_shows w h =
      advance_shows (staged_in k w).luts (staged_in k w).device.now (with_glass (staged_in k w).device w.states w.picture) number
      (record {
        swing = h.swing;
        some = h.some;
        ticks = h.ticks;
        short = staged_short k (with_luts w.device w.luts w.log) h.ticks h.short;
        states = h.states;
        within = h.within;
        pixels = h.pixels;
        sized = h.sized;
        pixels_long = h.pixels_long;
        counts = h.counts;
        generation = h.generation;
      })

  activated_shows : (w : WithBuffers) → Shows (seen_buffers w) number
      → Shows (seen_buffers (activated k w)) (over w.device.config (once_in k w.device w.luts) number)
  activated_shows w h =
      subst (λ (ws : List Worked). Shows (seen_buffers (activated k w)) (over w.device.config ws number))
      (staged_once k (with_luts w.device w.luts w.log))
      (staged_shows w h)

  pub activation_shows : (w : WithBuffers) (power : Power) → Shows (seen_buffers w) number
      → Shows (seen_buffers (begin.begun k 0x20 w power))
      (over w.device.config (pick (reaches power (pending w.device.bus.busy_until w.device.now)) (once_in k w.device w.luts) []) number)
  unfolding begin.begun begin.command_by_kind begin.run begin.command_made kind_of rows lookup number_over
  activation_shows w InReset h = subst (λ s. Shows s number) (sym (still_told k 0x20 (WhileInReset 0x20) w)) h
  activation_shows w Asleep h = subst (λ s. Shows s number) (sym (still_told k 0x20 (WhileAsleep 0x20) w)) h
  activation_shows w Running h = by (pending w.device.bus.busy_until w.device.now)
    where
      by : (b : Bool)
          → Shows (seen_buffers (pick (b && true) (told (WhileBusy 0x20) w) (begin.command_by_kind k 0x20 w (kind_of 0x20))))
          (over w.device.config (pick (not b) (once_in k w.device w.luts) []) number)
      by true = subst (λ s. Shows s number) (sym (still_told k 0x20 (WhileBusy 0x20) w)) h
      by false =
          activated_shows (on device_in_buffers (begin.command_made 0x20 (Write (Exactly 0))) w)
          h
