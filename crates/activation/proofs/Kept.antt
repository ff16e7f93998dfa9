-- What an activation keeps. Assumes nothing.
use Rattle.std.specs.Prelude.{None}
use Prim.Native.Nat.{ℕ}
use mathlib.Core.Path.{◌≡◌, refl, sym, subst, ◌∙◌}
use mathlib.Core.Bool.{Bool, ◌&&◌}
use mathlib.Core.List.{List}
use lib.IntN.{ℤ}
use lib.ListN.{length}
use Rattle.numbers.specs.Choice.{pick}
use Rattle.numbers.proofs.Painted.{length_tab}
use Rattle.diagnostic.specs.declared.DiagnosticKind.TheVariants.{WithoutClock, WithoutAnalog}
use Rattle.diagnostic.specs.declared.Stage.TheVariants as stage
use Rattle.scan.specs.Luts.{lut_of}
use Rattle.device.specs.declared.Ssd1677.{Ssd1677}
use Rattle.world.specs.World.{WithGlass, with_glass, WithBuffers, Lent}
use Rattle.clock.specs.Advance.{Ready, ending_of, clocked, advanced}
use Rattle.clock.proofs.Arrived.{ended_holds}
use Rattle.clock.proofs.Kept.{ReadyGlass, ready_finished}
use Rattle.stages.specs.Run.{Step, noted}
use Rattle.stages_laws.proofs.Kept.{either}
use Rattle.activation.specs.Display.{Displayed, scan_of, unchanged, displayBegun, displayShown}
use Rattle.activation.specs.Activation.{run_settled, WithLuts, with_luts, staged, staged_in, activated}

-- the stages leave the configuration and the glass as they were
pub ready_after : (k : Lent) (s z : WithLuts) (states : List ℤ) (pixels counts : List ℕ) → z ≡ staged k s → length z.luts ≡ length s.luts
    → Ready s.device states s.luts pixels counts → Ready z.device states z.luts pixels counts
unfolding staged run_settled
ready_after k s z states pixels counts e same h =
    subst (λ (x : WithLuts). Ready x.device states z.luts pixels counts) (sym e)
    (record {
      luts_long = same ∙ h.luts_long;
      pixels_long = h.pixels_long;
      counts_long = h.counts_long;
      few = h.few;
      some = h.some;
      lasting = h.lasting;
    })

-- the clock's move keeps what finishing a display asks
pub ready_advanced : (luts : List ℕ) (time : ℕ) (g : WithGlass) → ReadyGlass luts g → ReadyGlass luts (advanced luts time g)
unfolding advanced
ready_advanced luts time g h =
    let x = clocked time g in
    ended_holds (ReadyGlass luts) luts x (λ display. ready_finished (ending_of x.device display display.ends None) luts x h) h

-- a display writes every LUT anew and no more
module _ (black_white red gates : List ℕ) (d : Ssd1677) (wanted two : Bool) (s : Step) (luts : List ℕ) where
  abbrev long : Displayed → Type 0
  long x = length x.luts ≡ length luts

  abbrev clockless : Displayed
  clockless = unchanged d.display luts (noted d.now (WithoutClock stage.Display) s)

  abbrev analogless : Displayed
  analogless = unchanged d.display luts (noted d.now (WithoutAnalog stage.Display) s)

  luts_shown : length (displayShown black_white red gates d wanted two s luts).luts ≡ length luts
  unfolding displayShown displayBegun
  luts_shown =
      let x = displayBegun black_white red gates d two s luts in
      either long (wanted && s.run.waveform_found) (pick s.run.clock (pick s.run.analog x analogless) clockless)
      (unchanged d.display luts s)
      (either long s.run.clock (pick s.run.analog x analogless) clockless
      (either long s.run.analog x analogless (length_tab (length luts) (lut_of gates red black_white d.config.panel (scan_of d.regs))) refl)
      refl)
      refl

pub luts_staged : (k : Lent) (s : WithLuts) → length (staged k s).luts ≡ length s.luts
unfolding staged
luts_staged k s = luts_shown _ _ _ _ _ _ _ _

-- 0x20 keeps what finishing a display asks
pub ready_activated : (k : Lent) (w : WithBuffers) → Ready w.device w.states w.luts w.picture.pixels w.picture.counts
    → Ready (activated k w).device (activated k w).states (activated k w).luts (activated k w).picture.pixels (activated k w).picture.counts
unfolding activated
ready_activated k w h =
    let s = staged_in k w in
    let before = with_luts w.device w.luts w.log in
    ready_advanced s.luts s.device.now (with_glass s.device w.states w.picture)
    (ready_after k before s w.states w.picture.pixels w.picture.counts refl (luts_staged k before) h)
