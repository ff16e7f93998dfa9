-- What phases do, walked and repeated. Assumes nothing.
use mathlib.Core.Path.{◌≡◌, refl, sym, ap, subst, ◌∙◌}
use mathlib.Core.List.{List, [], ◌∷◌, ◌++◌, foldl}
use Prim.Native.Nat.{ℕ, zero, suc, ◌+◌}
use native.Mathlib.Numerals.{add-one}
use lib.IntN.{ℤ}
use Rattle.glass.specs.declared.Transfer.{Transfer}
use Rattle.glass.specs.Transfers.{shift_t, identity_t}
use Rattle.glass.specs.Exact.{drive, drives}
use Rattle.glass.proofs.Exactly.{Moves, moves_shift, moves_as}
use Rattle.waveform.specs.declared.Driving.{Driving}
use Rattle.waveform.specs.declared.Phase.{Phase}
use Rattle.waveform.specs.Phases.{joined}
use Rattle.waveform.specs.Walks.{saturated_drive, pushed, whole_step}
use Rattle.waveform.specs.Exact.{frames_drive, all_drives}
use Rattle.waveform_laws.proofs.Products.{drive_like}
use Rattle.combine.specs.Acts.{ActsAs, again, Extends, swing_in, driven_by}
use Rattle.combine.proofs.Powers.{Swing, acts_then, acts_start}

-- what a phase adds, in 64 bits and exactly
abbrev added : Driving → Phase → ℤ
added d p = saturated_drive d.positive_drives_black p.millivolts p.frames p.frame_ns

abbrev exact : Driving → Phase → ℤ
exact d p = frames_drive d.positive_drives_black p p.frames

module _ (d : Driving) (w : Swing d.swing) where
  -- a phase to its end
  phase_moves : (p : Phase) → Moves (swing_in d) (shift_t (added d p) d.swing) (drive (swing_in d) (exact d p))
  phase_moves p =
      subst (λ (z : ℤ). Moves (swing_in d) (shift_t (added d p) z) (drive (swing_in d) (exact d p))) (sym w.is)
      (moves_as (swing_in d) w.room
      (λ x h. drive_like (swing_in d) w.some w.room d.positive_drives_black p.millivolts p.frames p.frame_ns x h)
      (moves_shift (swing_in d) w.room (added d p)))

  -- the walk over phases, from any transfer on
  pub walk_acts : (ps : List Phase) (t : Transfer) (f : ℕ → ℕ) → ActsAs (swing_in d) t f → ActsAs (swing_in d) (foldl (whole_step d) t ps) (λ x. driven_by d ps (f x))
  unfolding drives all_drives pushed
  walk_acts [] t f a = a
  walk_acts (p ∷ ps) t f a = walk_acts ps (whole_step d t p) (λ x. drive (swing_in d) (exact d p) (f x)) (acts_then (swing_in d) w.room a (phase_moves p))

  pub walk_extends : (ps : List Phase) (t r : Transfer) → r ≡ foldl (whole_step d) t ps → Extends d ps t r
  walk_extends ps t r e = record { acts = λ f a. subst (λ (u : Transfer). ActsAs (swing_in d) u (λ x. driven_by d ps (f x))) (sym e) (walk_acts ps t f a) }

  pub start_acts : {t : Transfer} → t ≡ identity_t d.swing → ActsAs (swing_in d) t (λ x. x)
  start_acts e = subst (λ (u : Transfer). ActsAs (swing_in d) u (λ x. x)) (sym (e ∙ ap identity_t w.is)) (acts_start (swing_in d) w.room)

module _ (d : Driving) where
  -- phases, then others
  drive_append : (ps qs : List Phase) (x : ℕ) → driven_by d (ps ++ qs) x ≡ driven_by d qs (driven_by d ps x)
  unfolding drives all_drives
  drive_append [] qs x = refl
  drive_append (p ∷ ps) qs x = drive_append ps qs (drive (swing_in d) (exact d p) x)

  -- phases repeated
  pub drive_again : (n : ℕ) (ps : List Phase) (x : ℕ) → again n (driven_by d ps) x ≡ driven_by d (joined n (λ k. ps)) x
  unfolding again joined drives all_drives
  drive_again zero ps x = refl
  drive_again (suc n) ps x = ap (driven_by d ps) (drive_again n ps x) ∙ sym (drive_append (joined n (λ k. ps)) ps x)

  -- before the first group, and a group more
  pub drive_none : (f : ℕ → List Phase) (x : ℕ) → x ≡ driven_by d (joined 0 f) x
  unfolding drives all_drives joined
  drive_none f x = refl

  pub drive_more : (f : ℕ → List Phase) (n x : ℕ) → driven_by d (f n) (driven_by d (joined n f) x) ≡ driven_by d (joined (n + 1) f) x
  unfolding joined
  drive_more f n x = sym (drive_append (joined n f) (f n) x) ∙ ap (λ (k : ℕ). driven_by d (joined k f) x) (sym (add-one n))
