-- The four phases of a group with their drives made once are the walk over its phases. Assumes nothing.
use mathlib.Core.Path.{◌≡◌, refl, sym, ap, ◌∙◌}
use mathlib.Core.Bool.{Bool, true, false}
use mathlib.Core.List.{List, [], ◌∷◌, foldl}
use Prim.Native.Nat.{ℕ}
use lib.Dec.{eqb}
use lib.IntN.{ℤ, pos}
use borrow.Author.Tests.{eq-eqb, ne_eqb}
use Rattle.numbers.specs.Choice.{pick}
use Rattle.glass.specs.declared.Transfer.{Transfer}
use Rattle.glass.specs.Transfers.{then_t, shift_t}
use Rattle.waveform.specs.declared.Driving.{Driving}
use Rattle.waveform.specs.declared.Group.{Group}
use Rattle.waveform.specs.declared.Phase.{Phase}
use Rattle.waveform.specs.declared.DrivenPhase.{DrivenPhase}
use Rattle.waveform.specs.Phases.{driven, phases_in, joined}
use Rattle.waveform.specs.Walks.{phase_in, four_in, saturated_drive, phase_step, drive_stepped, pushed, whole_step}
use Rattle.waveform_laws.proofs.Joined.{fold_none, fold_more}

abbrev whole : Driving → Phase → ℤ
whole d p = saturated_drive d.positive_drives_black p.millivolts p.frames p.frame_ns

-- the drive of a phase with frames, and of one without
pub drive_none : (d : Driving) (p : Phase) → p.frames ≡ 0 → record { phase = p; drive = pos 0 } ≡ phase_step d p
unfolding phase_step
drive_none d p e = λ i. record { phase = p; drive = pick (sym (eq-eqb p.frames 0 e) i) (pos 0) (whole d p) }

pub drive_some : (d : Driving) (p : Phase) → (p.frames ≡ 0 → ⊥) → record { phase = p; drive = whole d p } ≡ phase_step d p
unfolding phase_step
drive_some d p h = λ i. record { phase = p; drive = pick (sym (ne_eqb p.frames 0 h) i) (pos 0) (whole d p) }

step_is : (d : Driving) (p : Phase) (t : Transfer) → drive_stepped d (phase_step d p) t ≡ foldl (whole_step d) t (driven p)
unfolding drive_stepped phase_step driven pushed
step_is d p t = by (eqb p.frames 0)
  where
    by : (b : Bool) → pick b t (then_t t (shift_t (pick b (pos 0) (whole d p)) d.swing)) ≡ foldl (whole_step d) t (pick b [] (p ∷ []))
    by true = refl
    by false = refl

-- a phase of 0 frames, and any other
pub stepped_none : (d : Driving) (s : DrivenPhase) (t : Transfer) → s.phase.frames ≡ 0 → drive_stepped d s t ≡ t
unfolding drive_stepped
stepped_none d s t e = simp (eq-eqb s.phase.frames 0 e)

pub stepped_some : (d : Driving) (s : DrivenPhase) (t : Transfer) → (s.phase.frames ≡ 0 → ⊥) → drive_stepped d s t ≡ then_t t (shift_t s.drive d.swing)
unfolding drive_stepped
stepped_some d s t h = simp (ne_eqb s.phase.frames 0 h)

-- the phase of a step
pub phase_is : (d : Driving) {s : DrivenPhase} {p : Phase} → s ≡ phase_step d p → s.phase ≡ p
unfolding phase_step
phase_is d h = ap (λ (s : DrivenPhase). s.phase) h

-- the four phases of a group
pub four_is : (d : Driving) (g : Group) {p q r s : Phase} → p ≡ phase_in d g 0 → q ≡ phase_in d g 1 → r ≡ phase_in d g 2 → s ≡ phase_in d g 3 → phases_in p q r s ≡ four_in d g
unfolding joined
four_is d g h₀ h₁ h₂ h₃ = λ i. phases_in (h₀ i) (h₁ i) (h₂ i) (h₃ i)

module _ (d : Driving) (g : Group) {a b c e : DrivenPhase} (h₀ : a ≡ phase_step d (phase_in d g 0)) (h₁ : b ≡ phase_step d (phase_in d g 1)) (h₂ : c ≡ phase_step d (phase_in d g 2)) (h₃ : e ≡ phase_step d (phase_in d g 3)) where
  pub steps_are : phases_in a.phase b.phase c.phase e.phase ≡ four_in d g
  steps_are = four_is d g (phase_is d h₀) (phase_is d h₁) (phase_is d h₂) (phase_is d h₃)

  pub pass_is : (t : Transfer) → drive_stepped d e (drive_stepped d c (drive_stepped d b (drive_stepped d a t))) ≡ foldl (whole_step d) t (phases_in a.phase b.phase c.phase e.phase)
  pass_is t =
      let f : ℕ → List Phase = λ k. driven (phase_in d g k) in
      let one = fold_more (whole_step d) t f 0 (fold_none (whole_step d) t f) (ap (λ (s : DrivenPhase). drive_stepped d s t) h₀ ∙ step_is d (phase_in d g 0) t) in
      let two = fold_more (whole_step d) t f 1 one (ap (λ (s : DrivenPhase). drive_stepped d s (drive_stepped d a t)) h₁ ∙ step_is d (phase_in d g 1) (drive_stepped d a t)) in
      let three = fold_more (whole_step d) t f 2 two (ap (λ (s : DrivenPhase). drive_stepped d s (drive_stepped d b (drive_stepped d a t))) h₂ ∙ step_is d (phase_in d g 2) (drive_stepped d b (drive_stepped d a t))) in
      fold_more (whole_step d) t f 3 three (ap (λ (s : DrivenPhase). drive_stepped d s (drive_stepped d c (drive_stepped d b (drive_stepped d a t)))) h₃ ∙ step_is d (phase_in d g 3) (drive_stepped d c (drive_stepped d b (drive_stepped d a t))))
      ∙ sym (ap (foldl (whole_step d) t) steps_are)
