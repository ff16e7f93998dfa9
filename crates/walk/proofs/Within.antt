-- A walk over phases that all end by the cut is the whole walk over them. Assumes nothing.
use mathlib.Core.Path.{◌≡◌, refl, ap, sym, subst, ◌∙◌}
use mathlib.Core.Bool.{Bool, false}
use mathlib.Core.List.{List, [], ◌∷◌, foldl}
use Prim.Native.Nat.{ℕ, ◌+◌, ◌≤◌, min}
use native.Mathlib.Omega.{arith}
use lib.IntN.{ℤ}
use Rattle.std.specs.Prelude.{Option, Some, None, unwrap_or}
use Rattle.numbers.specs.Saturation.{largest}
use Rattle.glass.specs.declared.Transfer.{Transfer}
use Rattle.waveform.specs.declared.Driving.{Driving}
use Rattle.waveform.specs.declared.Phase.{Phase}
use Rattle.waveform.specs.declared.Progress.{Progress}
use Rattle.waveform.specs.Exact.{lasts}
use Rattle.waveform.specs.declared.Waveform.{Waveform}
use Rattle.waveform.specs.declared.Drive.{Drive}
use Rattle.waveform.specs.Phases.{phases_of}
use Rattle.waveform.specs.Walks.{whole_step, cut_step, phase_end, run_on, walk_start, driving_of, cut_of, transfer_of}
use Rattle.waveform_laws.specs.Total.{total}
use Rattle.waveform_laws.proofs.Steps.{step_on}

-- moments that stop at the last one, m
module _ (from first rest m : ℕ) where
  ends_alike : min (min (from + min first m) m + rest) m ≡ min (from + (first + rest)) m
  ends_alike = omega arith

  ends_by : (until : ℕ) → min (from + (first + rest)) m ≤ until → min (from + min first m) m ≤ until
  ends_by until h = omega arith

min_right : (a m : ℕ) → min a m ≤ m
min_right a m = omega arith

-- a walk that goes on
abbrev at : Transfer → ℕ → Progress
at t elapsed = record { transfer = t; elapsed = elapsed; stopped = false }

module _ (d : Driving) (until : ℕ) where
  within_at : (ps : List Phase) (t : Transfer) (from : ℕ) → from ≤ largest 64 → min (from + total ps) (largest 64) ≤ until
      → foldl (cut_step d until) (at t from) ps ≡ at (foldl (whole_step d) t ps) (min (from + total ps) (largest 64))
  unfolding total
  within_at [] t from h l = ap (at t) (omega arith)
  within_at (p ∷ ps) t from h l =
      let s : min (phase_end p from + total ps) (largest 64) ≡ min (from + (lasts p + total ps)) (largest 64) = ends_alike from (lasts p) (total ps) (largest 64) in
      ap (λ (w : Progress). foldl (cut_step d until) w ps) (step_on d until (at t from) p refl (ends_by from (lasts p) (total ps) (largest 64) until l))
      ∙ within_at ps (whole_step d t p) (phase_end p from) (min_right (from + min (lasts p) (largest 64)) (largest 64)) (subst (λ (n : ℕ). n ≤ until) (sym s) l)
      ∙ ap (at (foldl (whole_step d) t (p ∷ ps))) s

  pub within : (w : Progress) (ps : List Phase) → w.stopped ≡ false → w.elapsed ≤ largest 64 → min (w.elapsed + total ps) (largest 64) ≤ until
      → foldl (cut_step d until) w ps ≡ at (foldl (whole_step d) w.transfer ps) (min (w.elapsed + total ps) (largest 64))
  within w ps going h l =
      ap (λ (v : Progress). foldl (cut_step d until) v ps) (λ i. record { transfer = w.transfer; elapsed = w.elapsed; stopped = going i })
      ∙ within_at ps w.transfer w.elapsed h l

-- no phase ends past the last moment
endless : (d : Driving) (ps : List Phase) (w : Progress) → w.stopped ≡ false → (foldl (cut_step d (largest 64)) w ps).transfer ≡ foldl (whole_step d) w.transfer ps
endless d [] w e = refl
endless d (p ∷ ps) w e =
    ap (λ (v : Progress). (foldl (cut_step d (largest 64)) v ps).transfer) (step_on d (largest 64) w p e (omega arith))
    ∙ endless d ps (run_on d p (phase_end p w.elapsed) w.transfer) refl

-- so a walk with no cut is one up to that moment
pub cut_there : (w : Waveform) (drive : Drive) (swing : ℤ) (black : Bool) (until : Option ℕ) → cut_of w drive swing black (unwrap_or until (largest 64)) ≡ transfer_of w drive swing black until
cut_there w drive swing black None = endless (driving_of w drive swing black) (phases_of w drive) (walk_start swing) refl
cut_there w drive swing black (Some until) = refl
