-- One phase of a walk up to a cut, by its cases. Assumes nothing.
use mathlib.Core.Path.{◌≡◌, refl, ap, ◌∙◌}
use mathlib.Core.Bool.{true, false}
use mathlib.Core.List.{List, [], ◌∷◌, foldl}
use Prim.Native.Nat.{ℕ, ◌-◌, ◌≤◌, ◌<◌}
use borrow.Author.Tests.{lt-ltb, le-ltb}
use Rattle.waveform.specs.declared.Driving.{Driving}
use Rattle.waveform.specs.declared.Phase.{Phase}
use Rattle.waveform.specs.declared.Progress.{Progress}
use Rattle.waveform.specs.Walks.{cut_step, phase_cut, run_on, phase_end}

module _ (d : Driving) (until : ℕ) (w : Progress) where
  -- a walk that has stopped stays
  stays : (p : Phase) → w.stopped ≡ true → cut_step d until w p ≡ w
  unfolding cut_step
  stays p e = simp e

  -- a phase that ends by the cut runs to its end
  pub step_on : (p : Phase) → w.stopped ≡ false → phase_end p w.elapsed ≤ until → cut_step d until w p ≡ run_on d p (phase_end p w.elapsed) w.transfer
  unfolding cut_step
  step_on p e h = simp (e, le-ltb until (phase_end p w.elapsed) h)

  -- another is cut short
  pub step_short : (p : Phase) → w.stopped ≡ false → until < phase_end p w.elapsed → cut_step d until w p ≡ phase_cut d p (until - w.elapsed) (phase_end p w.elapsed) w.transfer
  unfolding cut_step
  step_short p e h = simp (e, lt-ltb until (phase_end p w.elapsed) h)

-- nothing after the cut counts
pub stopped_stays : (d : Driving) (until : ℕ) (w : Progress) (ps : List Phase) → w.stopped ≡ true → foldl (cut_step d until) w ps ≡ w
stopped_stays d until w [] e = refl
stopped_stays d until w (p ∷ ps) e = ap (λ (v : Progress). foldl (cut_step d until) v ps) (stays d until w p e) ∙ stopped_stays d until w ps e
