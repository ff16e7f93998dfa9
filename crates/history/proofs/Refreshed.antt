-- What the clock's move, the reset line and 0x20 make of the refresh that the display shows: none goes on past its end or a fall of RES#, and
-- an end that was reached is not reached again. Assumes nothing.
use Rattle.std.specs.Prelude.{Option, Some, None}
use Prim.Native.Nat.{ℕ, max}
use mathlib.Core.Path.{◌≡◌, refl, ap, ◌∙◌}
use mathlib.Core.Bool.{Bool, true, false, ◌&&◌, ◌||◌, not}
use mathlib.Core.List.{List, []}
use native.Mathlib.Omega.{arith}
use lib.Dec.{eqb, leb}
use Rattle.numbers.specs.Choice.{pick}
use Rattle.numbers.specs.Rows.{lookup}
use Rattle.panel.specs.declared.Display.{Display}
use Rattle.panel.specs.Finish.{finished}
use Rattle.diagnostic.specs.declared.DiagnosticKind.TheVariants.{WhileBusy, WithoutClock, WithoutAnalog}
use Rattle.diagnostic.specs.declared.Stage.TheVariants as stage
use Rattle.device.specs.declared.Kind.TheVariants.{Write, Read, Unsupported, Reserved}
use Rattle.device.specs.declared.Params.TheVariants.{Exactly}
use Rattle.device.specs.declared.Power.{Power}
use Rattle.device.specs.declared.Power.TheVariants.{Running, Asleep, InReset}
use Rattle.device.specs.declared.Ssd1677.{Ssd1677}
use Rattle.device.specs.Parts.{with_display}
use Rattle.world.specs.World.{World, WithGlass, with_glass, WithGlassLog, WithBuffers, Lent, lent_of, on, log_in_glass_log, device_in_buffers, log_in_buffers}
use Rattle.command.specs.Table.{rows, kind_of}
use Rattle.busy.specs.Busy.{pending}
use Rattle.clock.specs.Advance.{clocked, quieted, glass_published, ending_of, glass_of, ended_by, ended, advanced}
use Rattle.chip.specs.Close.{closed}
use Rattle.chip.specs.Report.{logged}
use Rattle.reset.specs.Reset as reset
use Rattle.reset.proofs.Kept.{cut_holds}
use Rattle.start.specs.Start.{soft_reset, vcom_sensed, pointed}
use Rattle.stages.specs.Run.{control_of, Step, noted}
use Rattle.activation.specs.Display.{Displayed, display_of, displayBegun, displayShown, unchanged}
use Rattle.activation.specs.Activation.{WithLuts, with_luts, run_settled, before, during, staged, staged_in, activated}
use Rattle.begin.specs.Begin as begin
use Rattle.history.specs.Reckon.{Core, core_of, device_of, bare, Refreshing, none, one, shown_by, falls, begins, unreached, instead, reached, cut_at}
use Rattle.history.proofs.Stages.{unbused}
use Rattle.history.proofs.Display.{during_plain}
use Rattle.history.proofs.Begun.{told}
use Rattle.history.proofs.Shows.{ends_by}
use Rattle.history.proofs.Moved.{cuts_at}
use Rattle.history.proofs.Once.{reaches}
use Rattle.device.specs.declared.Kind.{Kind}

-- ---- what the end and the cut make of the display's refresh
module _ (luts : List ℕ) (t : ℕ) where
  pub reached_is : (o : Option Display) → reached t (shown_by o luts) ≡ ends_by luts t o
  unfolding reached
  reached_is None = refl
  reached_is (Some display) = refl

  pub cut_is : (o : Option Display) (frequency : ℕ) → cut_at frequency t (shown_by o luts) ≡ cuts_at luts frequency t o
  unfolding cut_at
  cut_is None frequency = refl
  cut_is (Some display) frequency = refl

-- the clock's move
pub moved_is : (by luts : List ℕ) (time : ℕ) (g : WithGlass)
    → shown_by (advanced by time g).device.display luts ≡ unreached (max g.device.now time) (shown_by g.device.display luts)
unfolding advanced ended unreached
moved_is by luts time g = goes g.device.display refl
  where
    x : WithGlass
    x = clocked time g

    at : (display : Display) (b : Bool) → g.device.display ≡ Some display
        → shown_by (quieted (pick b (glass_published x (finished (ending_of x.device display display.ends None) by (glass_of x))) x)).device.display luts
        ≡ pick b none (shown_by (Some display) luts)
    at display true is = refl
    at display false is = ap (λ (o : Option Display). shown_by o luts) is

    goes : (o : Option Display) → g.device.display ≡ o
        → shown_by (quieted (ended_by by x o)).device.display luts ≡ unreached (max g.device.now time) (shown_by o luts)
    goes None is = ap (λ (o : Option Display). shown_by o luts) is
    goes (Some display) is = at display (leb display.ends (max g.device.now time)) is

-- ---- an end that was reached is not reached again
end_once : (t : ℕ) (o : Refreshing) → unreached t (unreached t o) ≡ unreached t o
unfolding unreached
end_once t none = refl
end_once t (one r) = by (leb r.ends t) refl
  where
    by : (b : Bool) → leb r.ends t ≡ b → unreached t (pick b none (one r)) ≡ pick b none (one r)
    by true e = refl
    by false e = rw e

none_twice : (t : ℕ) (o : Refreshing) → reached t (unreached t o) ≡ []
unfolding unreached reached
none_twice t none = refl
none_twice t (one r) = by (leb r.ends t) refl
  where
    by : (b : Bool) → leb r.ends t ≡ b → reached t (pick b none (one r)) ≡ []
    by true e = refl
    by false e = rw e

pub instead_once : (t : ℕ) (b o : Refreshing) → unreached t (instead b (unreached t o)) ≡ unreached t (instead b o)
instead_once t none o = end_once t o
instead_once t (one r) o = refl

pub instead_ends : (t : ℕ) (b o : Refreshing) → reached t (instead b (unreached t o)) ≡ reached t b
unfolding reached
instead_ends t none o = none_twice t o
instead_ends t (one r) o = refl

-- ---- the reset line
asserted_is : (luts : List ℕ) (w : WithGlassLog) → shown_by (reset.asserted luts w).device.display luts ≡ none
unfolding reset.asserted reset.in_reset reset.restored reset.display_cut
asserted_is luts w =
    cut_holds (λ (v : WithGlassLog). shown_by v.device.display luts ≡ none) luts (on log_in_glass_log closed w) (λ display is. refl) refl
    (λ is. ap (λ (o : Option Display). shown_by o luts) is)

pub line_is : (luts : List ℕ) (low : Bool) (w : WithGlassLog) (power : Power)
    → shown_by (reset.by_line luts low w power).device.display luts ≡ pick (falls low power) none (shown_by w.device.display luts)
unfolding reset.by_line reset.released
line_is luts true w InReset = refl
line_is luts true w Running = asserted_is luts w
line_is luts true w Asleep = asserted_is luts w
line_is luts false w InReset = refl
line_is luts false w Running = refl
line_is luts false w Asleep = refl

-- ---- 0x20
-- what its display shows: what it begins where none was, in place of the one before
shown_is : (black_white red gates : List ℕ) (d : Ssd1677) (wanted two : Bool) (s : Step) (luts : List ℕ)
    → shown_by (displayShown black_white red gates d wanted two s luts).display (displayShown black_white red gates d wanted two s luts).luts
    ≡ instead
    (shown_by (displayShown black_white red gates (with_display d None) wanted two s luts).display
    (displayShown black_white red gates (with_display d None) wanted two s luts).luts)
    (shown_by d.display luts)
unfolding displayShown displayBegun display_of
shown_is black_white red gates d wanted two s luts = by (wanted && s.run.waveform_found) s.run.clock s.run.analog
  where
    at : Ssd1677 → Bool → Bool → Bool → Displayed
    at x a b c =
        pick a
        (pick b
        (pick c (displayBegun black_white red gates x two s luts) (unchanged x.display luts (noted x.now (WithoutAnalog stage.Display) s)))
        (unchanged x.display luts (noted x.now (WithoutClock stage.Display) s)))
        (unchanged x.display luts s)

    blank : Ssd1677
    blank = with_display d None

    by : (a b c : Bool)
        → shown_by (at d a b c).display (at d a b c).luts ≡ instead (shown_by (at blank a b c).display (at blank a b c).luts) (shown_by d.display luts)
    by true true true = refl
    by true true false = refl
    by true false c = refl
    by false b c = refl

-- what it begins, by what counts of the device
abbrev starts_in : Lent → Ssd1677 → List ℕ → Displayed
starts_in k d luts = during k (with_luts (unbused d) luts []) (control_of d.regs.update_control_2)

abbrev pub begins_in : Lent → Ssd1677 → List ℕ → Refreshing
begins_in k d luts = let t = starts_in k (with_display d None) luts in shown_by t.display t.luts

abbrev showing : Displayed → Refreshing
showing t = shown_by t.display t.luts

staged_is : (k : Lent) (s : WithLuts)
    → shown_by (staged k s).device.display (staged k s).luts ≡ instead (begins_in k s.device s.luts) (shown_by s.device.display s.luts)
unfolding staged run_settled
staged_is k s =
    let c = control_of s.device.regs.update_control_2 in
    ap showing (during_plain k s c)
    ∙ shown_is k.black_white k.red k.gates (unbused s.device) c.display c.mode_two (before k (with_luts (unbused s.device) s.luts []) c) s.luts

pub staged_core : (otp : List ℕ) (c : Core)
    → shown_by (staged (lent_of otp (bare c)) (with_luts (device_of c) c.luts [])).device.display
    (staged (lent_of otp (bare c)) (with_luts (device_of c) c.luts [])).luts
    ≡ instead (begins otp c) (shown_by c.display c.luts)
unfolding staged run_settled
staged_core otp c =
    let a = control_of c.regs.update_control_2 in
    shown_is c.black_white c.red c.gates (device_of c) a.display a.mode_two (before (lent_of otp (bare c)) (with_luts (device_of c) c.luts []) a)
    c.luts

pub begins_core : (otp : List ℕ) (w : World) → begins otp (core_of w) ≡ begins_in (lent_of otp w) w.device w.luts
unfolding staged run_settled
begins_core otp w =
    ap showing
    (during_plain (lent_of otp w) (with_luts (with_display (device_of (core_of w)) None) w.luts []) (control_of w.device.regs.update_control_2))

same_max : (n : ℕ) → max n n ≡ n
same_max n = omega arith

activated_is : (k : Lent) (w : WithBuffers)
    → shown_by (activated k w).device.display (activated k w).luts
    ≡ unreached w.device.now (instead (begins_in k w.device w.luts) (shown_by w.device.display w.luts))
unfolding activated staged run_settled
activated_is k w =
    let s = staged_in k w in
    moved_is s.luts s.luts s.device.now (with_glass s.device w.states w.picture)
    ∙ ap (λ (n : ℕ). unreached n (shown_by s.device.display s.luts)) (same_max w.device.now)
    ∙ ap (unreached w.device.now) (staged_is k (with_luts w.device w.luts w.log))

-- what is under way after it, by whether it reaches the chip
abbrev pub onward : Bool → ℕ → Refreshing → Refreshing → Refreshing
onward b t displayBegun old = pick b (unreached t (instead displayBegun old)) old

pub activation_is : (k : Lent) (w : WithBuffers) (power : Power)
    → shown_by (begin.begun k 0x20 w power).device.display (begin.begun k 0x20 w power).luts
    ≡ onward (reaches power (pending w.device.bus.busy_until w.device.now)) w.device.now (begins_in k w.device w.luts)
    (shown_by w.device.display w.luts)
unfolding begin.begun begin.command_by_kind begin.run begin.command_made kind_of rows lookup logged
activation_is k w InReset = refl
activation_is k w Asleep = refl
activation_is k w Running = by (pending w.device.bus.busy_until w.device.now)
  where
    next : Bool → WithBuffers
    next b = pick (b && true) (told (WhileBusy 0x20) w) (begin.command_by_kind k 0x20 w (kind_of 0x20))

    by : (b : Bool) → shown_by (next b).device.display (next b).luts
        ≡ onward (not b) w.device.now (begins_in k w.device w.luts) (shown_by w.device.display w.luts)
    by true = refl
    by false = activated_is k (on device_in_buffers (begin.command_made 0x20 (Write (Exactly 0))) w)

-- ---- another command chooses no LUTs
module _ (k : Lent) (command : ℕ) (e : eqb command 0x20 ≡ false) where
  luts_run : (w : WithBuffers) → (begin.run k command w).luts ≡ w.luts
  unfolding begin.run
  luts_run w = rw e (by (eqb command 0x12) (eqb command 0x28) (eqb command 0x24 || eqb command 0x26 || eqb command 0x27))
    where
      by : (a c d : Bool)
          → (pick a (on device_in_buffers soft_reset w) (pick false (activated k w) (pick c (on log_in_buffers vcom_sensed w) (pick d (on log_in_buffers (pointed command) w) w)))).luts
          ≡ w.luts
      by true c d = refl
      by false true d = refl
      by false false true = refl
      by false false false = refl

  luts_kind : (w : WithBuffers) (known : Option Kind) → (begin.command_by_kind k command w known).luts ≡ w.luts
  unfolding begin.command_by_kind
  luts_kind w None = refl
  luts_kind w (Some Reserved) = refl
  luts_kind w (Some Unsupported) = refl
  luts_kind w (Some (Write params)) = luts_run (on device_in_buffers (begin.command_made command (Write params)) w)
  luts_kind w (Some Read) = luts_run (on device_in_buffers (begin.command_made command Read) w)

  pub luts_begun : (w : WithBuffers) (power : Power) → (begin.begun k command w power).luts ≡ w.luts
  unfolding begin.begun
  luts_begun w InReset = refl
  luts_begun w Asleep = refl
  luts_begun w Running = by (begin.is_held_off command w.device)
    where
      by : (b : Bool) → (pick b (told (WhileBusy command) w) (begin.command_by_kind k command w (kind_of command))).luts ≡ w.luts
      by true = refl
      by false = luts_kind w (kind_of command)
