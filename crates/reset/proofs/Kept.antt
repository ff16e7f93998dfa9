-- A report, the end of a command, a restoring, a cut and the line each leave a state ready for the end of a display: configuration and
-- swing stay, and so do the buffers' lengths. Assumes nothing.
use Rattle.std.specs.Prelude.{Option, Some, None}
use Prim.Native.Nat.{ℕ}
use mathlib.Core.Path.{◌≡◌, refl}
use mathlib.Core.Bool.{Bool, true, false}
use mathlib.Core.List.{List}
use lib.Dec.{leb}
use lib.IntN.{ℤ}
use Rattle.numbers.specs.Choice.{pick}
use Rattle.diagnostic.specs.declared.DiagnosticKind.{DiagnosticKind}
use Rattle.diagnostic.specs.declared.DiagnosticKind.TheVariants.{ResetDuringDisplay}
use Rattle.panel.specs.declared.Display.{Display}
use Rattle.device.specs.declared.Ssd1677.{Ssd1677}
use Rattle.device.specs.declared.Power.{Power}
use Rattle.device.specs.declared.Power.TheVariants.{Running, Asleep, InReset}
use Rattle.world.specs.World.{WithLog, with_log, WithGlass, with_glass, WithGlassLog, on, device_in_glass_log, log_in_glass_log, glass_in_glass_log}
use Rattle.clock.specs.Advance.{Ready}
use Rattle.clock.proofs.Kept.{ReadyGlass, ready_finished}
use Rattle.chip.specs.Close.{closed}
use Rattle.chip.specs.Report.{logged}
use Rattle.reset.specs.Reset.{restored, display_cut, display_dropped, cut_by, cut, in_reset, asserted, released, by_line}

module _ (states : List ℤ) (luts pixels counts : List ℕ) where
  -- a report changes the journal alone
  pub ready_logged : (kind : DiagnosticKind) (k r : WithLog) → r ≡ logged kind k → Ready k.device states luts pixels counts → Ready r.device states luts pixels counts
  unfolding logged
  ready_logged kind k r e h = rw e h

  -- the end of a command changes the journal and the bus alone
  pub ready_closed : (k r : WithLog) → r ≡ closed k → Ready k.device states luts pixels counts → Ready r.device states luts pixels counts
  unfolding closed
  ready_closed k r e h = rw e h

  -- a restoring leaves configuration and glass alone
  pub ready_restored : (d : Ssd1677) → Ready d states luts pixels counts → Ready (restored d) states luts pixels counts
  unfolding restored
  ready_restored d h = h

-- the same of a state with its buffers
abbrev pub ReadyWith : List ℕ → WithGlassLog → Type 0
ReadyWith luts w = Ready w.device w.states luts w.picture.pixels w.picture.counts

-- what holds of a state with its display cut, with it dropped, and where there was none, holds of all that a fall of RES# makes of it
pub cut_holds : (P : WithGlassLog → Type 0) (luts : List ℕ) (w : WithGlassLog)
    → ((display : Display) → w.device.display ≡ Some display → P (on glass_in_glass_log (display_cut luts display) (on log_in_glass_log (logged ResetDuringDisplay) w)))
    → P (on device_in_glass_log display_dropped w) → (w.device.display ≡ None → P w) → P (cut luts w)
unfolding cut
cut_holds P luts w shortened dropped rest = by w.device.display refl
  where
    at : (display : Display) (b : Bool) → w.device.display ≡ Some display
        → P (pick b (on glass_in_glass_log (display_cut luts display) (on log_in_glass_log (logged ResetDuringDisplay) w)) (on device_in_glass_log display_dropped w))
    at display true is = shortened display is
    at display false is = dropped

    by : (o : Option Display) → w.device.display ≡ o → P (cut_by luts w o)
    by None is = rest is
    by (Some display) is = at display (leb display.started w.device.now) is

module _ (luts : List ℕ) where
  pub ready_shortened : (display : Display) (g : WithGlass) → ReadyGlass luts g → ReadyGlass luts (display_cut luts display g)
  unfolding display_cut
  ready_shortened display g h = ready_finished _ luts g h

  pub ready_cut : (w : WithGlassLog) → ReadyWith luts w → ReadyWith luts (cut luts w)
  ready_cut w h =
      let k = logged ResetDuringDisplay (with_log w.device w.log) in
      cut_holds (ReadyWith luts) luts w
      (λ display is. ready_shortened display (with_glass k.device w.states w.picture) (ready_logged w.states luts w.picture.pixels w.picture.counts ResetDuringDisplay _ k refl h))
      h (λ is. h)

  pub ready_asserted : (w : WithGlassLog) → ReadyWith luts w → ReadyWith luts (asserted luts w)
  unfolding asserted in_reset restored
  ready_asserted w h = ready_cut (on log_in_glass_log closed w) (ready_closed w.states luts w.picture.pixels w.picture.counts _ (closed (with_log w.device w.log)) refl h)

  pub ready_line : (low : Bool) (w : WithGlassLog) (p : Power) → ReadyWith luts w → ReadyWith luts (by_line luts low w p)
  unfolding by_line released
  ready_line true w InReset h = h
  ready_line true w Running h = ready_asserted w h
  ready_line true w Asleep h = ready_asserted w h
  ready_line false w InReset h = h
  ready_line false w Running h = h
  ready_line false w Asleep h = h
