-- The duration of a display is the time of its phases, one after the other. Assumes nothing.
use mathlib.Core.Path.{◌≡◌, refl, sym, ap, ◌∙◌}
use mathlib.Core.List.{List, [], ◌∷◌, ◌++◌}
use Prim.Native.Nat.{ℕ, zero, suc, ◌+◌, ◌*◌, min}
use native.Mathlib.Omega.{arith}
use native.Mathlib.Nat.{zero-mul, add-mul, mul_comm, mul_assoc, suc-mul}
use lib.ListN.{get_or}
use Rattle.numbers.specs.Saturation.{largest}
use Rattle.waveform.specs.declared.Drive.{Drive}
use Rattle.waveform.specs.declared.Group.{Group}
use Rattle.waveform.specs.declared.Levels.{Levels}
use Rattle.waveform.specs.declared.Phase.{Phase}
use Rattle.waveform.specs.declared.Waveform.{Waveform}
use Rattle.waveform.specs.Phases.{phase_of, driven, joined, four_phases, group_phases, phases_of, no_group}
use Rattle.waveform.specs.Duration.{frames_of, group_ns, groups_ns, duration_of}
use Rattle.waveform.specs.Exact.{lasts}
use Rattle.waveform_laws.specs.Total.{total}
use Rattle.waveform_laws.proofs.Joined.{driven_none, driven_some}

total_append : (ps qs : List Phase) → total (ps ++ qs) ≡ total ps + total qs
unfolding total
total_append [] qs = omega arith
total_append (p ∷ ps) qs = let e = total_append ps qs in omega arith

-- passing over a phase of 0 frames takes no time away
total_driven : (p : Phase) → total (driven p) ≡ lasts p
unfolding total
total_driven p = by p.frames refl
  where
    none : p.frames ≡ 0 → total [] ≡ lasts p
    none e = sym (ap (λ (n : ℕ). n * p.frame_ns) e ∙ zero-mul p.frame_ns)

    some : total (p ∷ []) ≡ lasts p
    some = omega arith

    by : (n : ℕ) → p.frames ≡ n → total (driven p) ≡ lasts p
    by zero e = ap total (driven_none p e) ∙ none e
    by (suc n) e = ap total (driven_some p (λ z. omega arith)) ∙ some

module _ (l : Levels) (drive : Drive) where
  total_four : (g : Group) → total (four_phases l drive g) ≡ frames_of g * g.frame_ns
  unfolding joined phase_of total
  total_four g =
      let d : ℕ → List Phase = λ k. driven (phase_of l drive g k) in
      let f : ℕ → ℕ = λ k. get_or g.frames k 0 in
      let p = g.frame_ns in
      let a = total_append (((([] ++ d 0) ++ d 1) ++ d 2)) (d 3) in
      let b = total_append ((([] ++ d 0) ++ d 1)) (d 2) in
      let c = total_append (([] ++ d 0)) (d 1) in
      let t0 = total_driven (phase_of l drive g 0) in
      let t1 = total_driven (phase_of l drive g 1) in
      let t2 = total_driven (phase_of l drive g 2) in
      let t3 = total_driven (phase_of l drive g 3) in
      let m = add-mul (f 0 + f 1 + f 2) (f 3) p in
      let n = add-mul (f 0 + f 1) (f 2) p in
      let o = add-mul (f 0) (f 1) p in
      omega arith

  total_repeats : (n : ℕ) (ps : List Phase) → total (joined n (λ k. ps)) ≡ n * total ps
  unfolding joined total
  total_repeats zero ps = sym (zero-mul (total ps))
  total_repeats (suc n) ps =
      total_append (joined n (λ k. ps)) ps ∙ ap (λ (m : ℕ). m + total ps) (total_repeats n ps) ∙ sym (suc-mul n (total ps))

  pub total_group : (g : Group) → total (group_phases l drive g) ≡ group_ns g
  unfolding group_ns
  total_group g =
      total_repeats g.repeats (four_phases l drive g)
      ∙ ap (λ (m : ℕ). g.repeats * m) (total_four g)
      ∙ sym (mul_assoc g.repeats (frames_of g) g.frame_ns)
      ∙ ap (λ (m : ℕ). m * g.frame_ns) (mul_comm g.repeats (frames_of g))

  total_groups : (gs : List Group) (n : ℕ) → total (joined n (λ k. group_phases l drive (get_or gs k no_group))) ≡ groups_ns gs n
  unfolding joined total groups_ns
  total_groups gs zero = refl
  total_groups gs (suc n) =
      total_append (joined n (λ k. group_phases l drive (get_or gs k no_group))) (group_phases l drive (get_or gs n no_group))
      ∙ (λ i. total_groups gs n i + total_group (get_or gs n no_group) i)

-- whatever drives: the phases' times, added, and stopped at 2^64 − 1
pub duration_is : (w : Waveform) (drive : Drive) → duration_of w ≡ min (total (phases_of w drive)) (largest 64)
duration_is w drive = ap (λ (n : ℕ). min n (largest 64)) (sym (total_groups w.levels drive w.groups 10))
