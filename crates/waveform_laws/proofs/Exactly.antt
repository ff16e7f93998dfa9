-- The theorems of the waveform, from a setting's bytes on: for every state from 0 to S the transfer of the whole display, and of the
-- display up to a cut of at most 2^64 − 2 ns, moves the state as the exact drives do, added in order and each sum held. Assumes nothing.
use mathlib.Core.Path.{◌≡◌, refl, sym, subst}
use mathlib.Core.Bool.{Bool, true, false}
use mathlib.Core.List.{List, [], ◌∷◌, foldl}
use Prim.Native.Nat.{ℕ, zero, suc, ◌+◌, ◌*◌, ◌-◌, ◌/◌, ◌≤◌, ◌<◌}
use native.Mathlib.Omega.{arith}
use native.Mathlib.Nat.{mul-zero, div-lt_iff_lt-mul}
use lib.IntN.{ℤ, pos}
use lib.Dec.{leb}
use borrow.Author.Tests.{leb-true, leb-false, lt-ltb}
use Rattle.numbers.specs.Saturation.{largest}
use Rattle.glass.specs.declared.Transfer.{Transfer}
use Rattle.glass.specs.Transfers.{apply_t, identity_t, shift_t, then_t}
use Rattle.glass.specs.Exact.{drive, drives}
use Rattle.glass.proofs.Exactly.{At, Moves, moves_shift, moves_start, at_then}
use Rattle.waveform.specs.declared.Drive.{Drive}
use Rattle.waveform.specs.declared.Driving.{Driving}
use Rattle.waveform.specs.declared.Phase.{Phase}
use Rattle.waveform.specs.declared.Progress.{Progress}
use Rattle.waveform.specs.Setting.{waveform_of}
use Rattle.waveform.specs.Walks.{saturated_drive, pushed, whole_step, cut_step, walk_start, driving_of, whole_transfer, cut_transfer}
use Rattle.waveform.specs.Exact.{frames_drive, lasts, all_drives, cut_drives, setting_phases}
use Rattle.waveform_laws.proofs.Products.{drive_like}
use Rattle.waveform_laws.proofs.Steps.{step_on, step_short, stopped_stays}

-- the whole frames within a time that a phase outlasts are fewer than its frames
fewer : (t frames period : ℕ) → t < frames * period → t / period < frames
fewer t frames zero h = absurd (let e = mul-zero frames in omega arith)
fewer t frames (suc n) h = (div-lt_iff_lt-mul {k = suc n} (omega arith)).1 h

module _ (S x : ℕ) (some : 1 ≤ S) (room : S ≤ 9223372036854775807) (in-swing : x ≤ S) (d : Driving) (swing : d.swing ≡ pos S) where
  abbrev black : Bool
  black = d.positive_drives_black

  -- some frames of a phase
  at_frames : (p : Phase) (r : ℕ) (t : Transfer) {y : ℕ} → At S t x y → At S (pushed d p r t) x (drive S (frames_drive black p r) y)
  unfolding pushed
  at_frames p r t {y} a =
      let e = saturated_drive black p.millivolts r p.frame_ns in
      subst (λ (n : ℕ). At S (then_t t (shift_t e d.swing)) x n) (drive_like S some room black p.millivolts r p.frame_ns y a.within)
      (subst (λ (z : ℤ). At S (then_t t (shift_t e z)) x (drive S e y)) (sym swing) (at_then S room in-swing a (moves_shift S room e y a.within)))

  -- the whole display, from any transfer on
  pub whole_on : (ps : List Phase) (t : Transfer) (y : ℕ) → At S t x y → At S (foldl (whole_step d) t ps) x (drives S (all_drives black ps) y)
  unfolding drives all_drives
  whole_on [] t y a = a
  whole_on (p ∷ ps) t y a = whole_on ps (whole_step d t p) (drive S (frames_drive black p p.frames) y) (at_frames p p.frames t a)

  -- a walk that goes on, with t left to the cut
  record Left (until t : ℕ) (w : Progress) (y : ℕ) : Type 0 where
    going : w.stopped ≡ false
    at : At S w.transfer x y
    left : w.elapsed + t ≡ until

  -- a phase that ends by the cut
  cut_in : (until t : ℕ) (p : Phase) (w : Progress) (y : ℕ) → until < largest 64 → lasts p ≤ t → Left until t w y
      → Left until (t - lasts p) (cut_step d until w p) (drive S (frames_drive black p p.frames) y)
  cut_in until t p w y h l g =
      let f = g.left in
      subst (λ (v : Progress). Left until (t - lasts p) v (drive S (frames_drive black p p.frames) y))
      (sym (step_on d until w p g.going (omega arith)))
      (record { going = refl; at = at_frames p p.frames w.transfer g.at; left = omega arith })

  -- a walk that has stopped
  record Stopped (w : Progress) (y : ℕ) : Type 0 where
    off : w.stopped ≡ true
    at : At S w.transfer x y

  -- a phase that the cut falls into
  cut_past : (until t : ℕ) (p : Phase) (w : Progress) (y : ℕ) → until < largest 64 → t < lasts p → Left until t w y
      → Stopped (cut_step d until w p) (drive S (frames_drive black p (t / p.frame_ns)) y)
  cut_past until t p w y h l g =
      let f = g.left in
      let z : until - w.elapsed ≡ t = omega arith in
      let less : (until - w.elapsed) / p.frame_ns < p.frames = subst (λ (n : ℕ). n / p.frame_ns < p.frames) (sym z) (fewer t p.frames p.frame_ns l) in
      subst (λ (v : Progress). Stopped v (drive S (frames_drive black p (t / p.frame_ns)) y))
      (sym (step_short d until w p g.going (omega arith)))
      (record {
        off = lt-ltb _ _ less;
        at = subst (λ (n : ℕ). At S (pushed d p ((until - w.elapsed) / p.frame_ns) w.transfer) x (drive S (frames_drive black p (n / p.frame_ns)) y)) z
            (at_frames p ((until - w.elapsed) / p.frame_ns) w.transfer g.at);
      })

  -- the display up to a cut, from a walk that goes on
  cut_on : (until t : ℕ) (ps : List Phase) (w : Progress) (y : ℕ) → until < largest 64 → Left until t w y
      → At S (foldl (cut_step d until) w ps).transfer x (drives S (cut_drives black t ps) y)
  unfolding drives cut_drives
  cut_on until t [] w y h g = g.at
  cut_on until t (p ∷ ps) w y h g = by (λ v z. cut_on until (t - lasts p) ps v z h) (leb (lasts p) t) refl
    where
      goal : Type 0
      goal = At S (foldl (cut_step d until) (cut_step d until w p) ps).transfer x (drives S (cut_drives black t (p ∷ ps)) y)

      by : ((v : Progress) (z : ℕ) → Left until (t - lasts p) v z → At S (foldl (cut_step d until) v ps).transfer x (drives S (cut_drives black (t - lasts p) ps) z))
          → (b : Bool) → leb (lasts p) t ≡ b → goal
      by rest true e = rw e (rest (cut_step d until w p) _ (cut_in until t p w y h (leb-true _ _ e) g))
      by rest false e =
          let s = cut_past until t p w y h (leb-false _ _ e) g in
          rw e (subst (λ (v : Progress). At S v.transfer x (drive S (frames_drive black p (t / p.frame_ns)) y)) (sym (stopped_stays d until (cut_step d until w p) ps s.off)) s.at)

  pub at_whole : (ps : List Phase) → At S (foldl (whole_step d) (identity_t (pos S)) ps) x (drives S (all_drives black ps) x)
  at_whole ps = whole_on ps (identity_t (pos S)) x (moves_start S room x in-swing)

  pub cut_at : (until : ℕ) (ps : List Phase) → until < largest 64 → At S (foldl (cut_step d until) (walk_start (pos S)) ps).transfer x (drives S (cut_drives black until ps) x)
  cut_at until ps h = cut_on until until ps (walk_start (pos S)) x h (record { going = refl; at = moves_start S room x in-swing; left = omega arith })

module _ (S : ℕ) (some : 1 ≤ S) (room : S ≤ 9223372036854775807) (setting periods : List ℕ) (drive : Drive) (black : Bool) where
  abbrev phases : List Phase
  phases = setting_phases setting periods drive

  pub whole_moves : Moves S (whole_transfer setting periods drive (pos S) black) (drives S (all_drives black phases))
  unfolding whole_transfer
  whole_moves x h = at_whole S x some room h (driving_of (waveform_of setting periods) drive (pos S) black) refl phases

  pub cut_moves : (until : ℕ) → until < largest 64 → Moves S (cut_transfer setting periods drive (pos S) black until) (drives S (cut_drives black until phases))
  unfolding cut_transfer
  cut_moves until l x h = cut_at S x some room h (driving_of (waveform_of setting periods) drive (pos S) black) refl until phases l

  -- a whole display adds every phase's exact drive, in order, each sum held
  pub whole_exact : (x : ℕ) → x ≤ S → apply_t (whole_transfer setting periods drive (pos S) black) (pos x) ≡ pos (drives S (all_drives black phases) x)
  whole_exact x h = (whole_moves x h).is

  -- one that is cut adds those of the finished phases, and of the whole frames that the cut lets the running one finish
  pub cut_exact : (until x : ℕ) → until < largest 64 → x ≤ S → apply_t (cut_transfer setting periods drive (pos S) black until) (pos x) ≡ pos (drives S (cut_drives black until phases) x)
  cut_exact until x l h = (cut_moves until l x h).is
