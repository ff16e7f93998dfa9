-- What finishing a display asks is kept where the configuration, the glass's swing and the buffers' lengths are. Assumes nothing.
use mathlib.Core.Path.{◌≡◌, sym, subst, ◌∙◌}
use mathlib.Core.List.{List}
use Prim.Native.Nat.{ℕ}
use lib.IntN.{ℤ}
use Rattle.counts.proofs.Occurs.{counts_length}
use Rattle.panel.specs.Finish.{Ending, published, finished}
use Rattle.panel_laws.proofs.Exactly.{states_length, pixels_length}
use Rattle.device.specs.declared.Ssd1677.{Ssd1677}
use Rattle.device.specs.Parts.{with_now}
use Rattle.world.specs.World.{WithGlass}
use Rattle.clock.specs.Advance.{Ready, glass_of, glass_published}

-- the clock alone has moved
pub ready_now : (d after : Ssd1677) (n : ℕ) (states : List ℤ) (luts pixels counts : List ℕ) → after ≡ with_now d n → Ready d states luts pixels counts
    → Ready after states luts pixels counts
ready_now d after n states luts pixels counts e h = subst (λ (x : Ssd1677). Ready x states luts pixels counts) (sym e) h

-- what finishing a display asks, of a state with its glass
abbrev pub ReadyGlass : List ℕ → WithGlass → Type 0
ReadyGlass luts g = Ready g.device g.states luts g.picture.pixels g.picture.counts

-- finishing a display keeps what finishing the next one asks
pub ready_finished : (e : Ending) (luts : List ℕ) (g : WithGlass) → ReadyGlass luts g → ReadyGlass luts (glass_published g (finished e luts (glass_of g)))
unfolding finished published
ready_finished e luts g h =
    record {
      luts_long = h.luts_long ∙ sym (states_length _ luts g.states);
      pixels_long = pixels_length _ _;
      counts_long = counts_length _;
      few = rw (states_length _ luts g.states) h.few;
      some = h.some;
      lasting = h.lasting;
    }
