-- What each return of the code hands over, over plain variables. Assumes nothing.
use Rattle.std.specs.Prelude.{Some, None}
use Prim.Native.Nat.{ℕ, ◌≤◌, ◌<◌}
use mathlib.Core.Path.{◌≡◌, sym, ap, ◌∙◌}
use mathlib.Core.Bool.{Bool, true, false}
use mathlib.Core.List.{List}
use borrow.Author.Tests.{le-leb, lt-leb}
use Rattle.diagnostic.specs.declared.DiagnosticKind.TheVariants.{ResetDuringDisplay}
use Rattle.panel.specs.declared.Display.{Display}
use Rattle.panel.specs.Finish.{Glass, finished}
use Rattle.device.specs.declared.Ssd1677.{Ssd1677}
use Rattle.device.specs.declared.Registers.{Registers}
use Rattle.device.specs.declared.Bus.{Bus}
use Rattle.device.specs.declared.Power.{Power}
use Rattle.device.specs.declared.Power.TheVariants.{Running, Asleep, InReset}
use Rattle.device.specs.declared.Current.TheVariants.{Idle}
use Rattle.device.specs.Parts.{with_bus, with_display, with_powers}
use Rattle.device.specs.Parts as part
use Rattle.world.specs.World.{WithLog, with_log, WithGlass, with_glass, WithGlassLog, with_glass_log}
use Rattle.registers.specs.Reset.{reset_of}
use Rattle.moment.specs.Moments.{ns_between, busy_for}
use Rattle.clock.specs.Advance.{ending_of, glass_of}
use Rattle.chip.specs.Close.{closed}
use Rattle.chip.specs.Report.{logged}
use Rattle.reset.specs.Reset.{restored, display_cut, cut_by, cut, in_reset, asserted, released, by_line}

pub restores : (d r : Ssd1677) (g : Registers) → g ≡ reset_of d.config.user_id
    → r ≡ with_powers d g false false (record { hv_not_ready = false; vci_low = false }) → r ≡ restored d
unfolding restored
restores d r g e f = rw (f, e)

pub shortens : (luts : List ℕ) (display : Display) (g : WithGlass) (into : ℕ) (after : Glass) (r : Ssd1677)
    → into ≡ ns_between g.device.config.frequency display.started g.device.now
    → after ≡ finished (ending_of g.device display g.device.now (Some into)) luts (glass_of g)
    → r ≡ part.with_panel_and_display g.device after.panel None
    → with_glass r after.states after.picture ≡ display_cut luts display g
unfolding display_cut
shortens luts display g into after r e₁ e₂ e₃ = rw (← e₁, ← e₂, e₃)

module _ (luts : List ℕ) (w : WithGlassLog) where
  pub cuts_none : w.device.display ≡ None → w ≡ cut luts w
  unfolding cut
  cuts_none is = rw is

  module _ (display : Display) (is : w.device.display ≡ Some display) where
    pub cuts : (k : WithLog) (g : WithGlass) → display.started ≤ w.device.now → k ≡ logged ResetDuringDisplay (with_log w.device w.log)
        → g ≡ display_cut luts display (with_glass k.device w.states w.picture) → with_glass_log g.device g.states g.picture k.log ≡ cut luts w
    unfolding cut
    cuts k g h e₁ e₂ = it ∙ ap (cut_by luts w) (sym is)
      where
        it : with_glass_log g.device g.states g.picture k.log ≡ cut_by luts w (Some display)
        it = rw (le-leb display.started w.device.now h, e₂, e₁)

    pub drops : (r : Ssd1677) → w.device.now < display.started → r ≡ with_display w.device None
        → with_glass_log r w.states w.picture w.log ≡ cut luts w
    unfolding cut
    drops r h e = rw (is, lt-leb display.started w.device.now h, e)

  pub asserts : (k : WithLog) (b : WithGlassLog) (d r : Ssd1677) → k ≡ closed (with_log w.device w.log)
      → b ≡ cut luts (with_glass_log k.device w.states w.picture k.log) → d ≡ restored b.device → r ≡ in_reset d
      → with_glass_log r b.states b.picture b.log ≡ asserted luts w
  unfolding asserted
  asserts k b d r e₁ e₂ e₃ e₄ = rw (e₄, e₃, e₂, e₁)

pub releases : (d r : Ssd1677) (b : Bus)
    → b ≡ busy_for (record { power = Running; current = Idle; busy_until = d.bus.busy_until }) d.config.frequency d.now d.config.timing.hardware_reset
    → r ≡ with_bus d b → r ≡ released d
unfolding released
releases d r b e f = rw (f, e)

-- the line, in each supply and reset state
module _ (luts : List ℕ) (low : Bool) (w v : WithGlassLog) (p : Power) where
  pub keeps_low : low ≡ true → p ≡ InReset → w ≡ by_line luts low w p
  unfolding by_line
  keeps_low e f = rw (e, f)

  pub falls : low ≡ true → v ≡ asserted luts w → p ≡ Running → v ≡ by_line luts low w p
  unfolding by_line
  falls e g f = rw (e, f) g

  pub falls_asleep : low ≡ true → v ≡ asserted luts w → p ≡ Asleep → v ≡ by_line luts low w p
  unfolding by_line
  falls_asleep e g f = rw (e, f) g

  pub keeps_high : low ≡ false → p ≡ Running → w ≡ by_line luts low w p
  unfolding by_line
  keeps_high e f = rw (e, f)

  pub keeps_asleep : low ≡ false → p ≡ Asleep → w ≡ by_line luts low w p
  unfolding by_line
  keeps_asleep e f = rw (e, f)

pub rises : (luts : List ℕ) (low : Bool) (w : WithGlassLog) (p : Power) (r : Ssd1677) → low ≡ false → p ≡ InReset → r ≡ released w.device
    → with_glass_log r w.states w.picture w.log ≡ by_line luts low w p
unfolding by_line
rises luts low w p r e f g = rw (e, f, g)
