-- The sum of the drives of phases that are joined, passed over or repeated. Assumes nothing.
use mathlib.Core.Path.{◌≡◌, refl, sym, ap, ◌∙◌}
use mathlib.Core.Bool.{false}
use mathlib.Core.List.{List, [], ◌∷◌, ◌++◌}
use Prim.Native.Nat.{ℕ, zero, suc, ◌+◌}
use native.Mathlib.Omega.{arith}
use native.Mathlib.Numerals.{add-one}
use lib.IntN.{ℤ, pos, ◌+ℤ◌, ◌*ℤ◌, +ℤ_idl, +ℤ_idr, +ℤ_assoc, zero-*ℤ, *ℤ-zero, *ℤ_comm, suc_ℤ-*ℤ}
use Rattle.waveform.specs.declared.Phase.{Phase}
use Rattle.waveform.specs.Phases.{driven, joined}
use Rattle.waveform.specs.Exact.{frames_drive, all_drives}
use Rattle.waveform_laws.proofs.Joined.{driven_none, driven_some}
use Rattle.charges.specs.Charge.{sum_z, drive_sum}

-- the drive of all frames of a phase
abbrev pub drive_of : Phase → ℤ
drive_of p = frames_drive false p p.frames

pub sum_append : (ps qs : List Phase) → drive_sum (ps ++ qs) ≡ drive_sum ps +ℤ drive_sum qs
unfolding sum_z all_drives
sum_append [] qs = sym (+ℤ_idl (drive_sum qs))
sum_append (p ∷ ps) qs = ap (λ (z : ℤ). drive_of p +ℤ z) (sum_append ps qs) ∙ sym (+ℤ_assoc (drive_of p) (drive_sum ps) (drive_sum qs))

-- a phase of 0 frames drives nothing, so passing over it takes nothing away
pub sum_driven : (p : Phase) → drive_sum (driven p) ≡ drive_of p
unfolding sum_z all_drives
sum_driven p = by p.frames refl
  where
    none : p.frames ≡ 0 → pos 0 ≡ drive_of p
    none e =
        sym
        (ap (λ (n : ℕ). p.millivolts *ℤ pos n *ℤ pos p.frame_ns) e
        ∙ ap (λ (z : ℤ). z *ℤ pos p.frame_ns) (*ℤ-zero p.millivolts)
        ∙ zero-*ℤ (pos p.frame_ns))

    by : (n : ℕ) → p.frames ≡ n → drive_sum (driven p) ≡ drive_of p
    by zero e = ap drive_sum (driven_none p e) ∙ none e
    by (suc n) e = ap drive_sum (driven_some p (λ z. omega arith)) ∙ +ℤ_idr (drive_of p)

-- the same phases n times
pub sum_repeats : (n : ℕ) (ps : List Phase) → drive_sum (joined n (λ k. ps)) ≡ drive_sum ps *ℤ pos n
unfolding joined sum_z all_drives
sum_repeats n ps = times n ∙ *ℤ_comm (pos n) (drive_sum ps)
  where
    times : (k : ℕ) → drive_sum (joined k (λ j. ps)) ≡ pos k *ℤ drive_sum ps
    times zero = sym (zero-*ℤ (drive_sum ps))
    times (suc k) =
        sum_append (joined k (λ j. ps)) ps ∙ ap (λ (z : ℤ). z +ℤ drive_sum ps) (times k) ∙ sym (suc_ℤ-*ℤ (pos k) (drive_sum ps))

-- where a loop begins that adds f 0, f 1, .., and a turn of it
pub sum_none : (f : ℕ → List Phase) → pos 0 ≡ drive_sum (joined 0 f)
unfolding joined sum_z all_drives
sum_none f = refl

pub sum_more : (f : ℕ → List Phase) (n : ℕ) → drive_sum (joined n f) +ℤ drive_sum (f n) ≡ drive_sum (joined (n + 1) f)
unfolding joined
sum_more f n = sym (sum_append (joined n f) (f n)) ∙ ap (λ (k : ℕ). drive_sum (joined k f)) (sym (add-one n))
