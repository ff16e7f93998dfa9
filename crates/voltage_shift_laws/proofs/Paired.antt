-- Phases one for one, of the same frames and periods under other voltages: whole, or cut at one same moment, they move two states no
-- farther apart than the states began and the voltages differ. Assumes nothing.
use mathlib.Core.Path.{◌≡◌, refl, sym, ap, subst}
use mathlib.Core.Bool.{Bool, true, false}
use mathlib.Core.List.{List, [], ◌∷◌, ◌++◌}
use Prim.Native.Nat.{ℕ, zero, suc, ◌+◌, ◌-◌, ◌*◌, ◌/◌, ◌≤◌}
use native.Mathlib.Omega.{arith}
use native.Mathlib.Nat.{mul-le-mul_left, mul-le-mul_right, mul_comm, mul-zero, zero-mul, div-le_of_le-mul}
use lib.Dec.{leb, eqb}
use borrow.Author.Tests.{leb-false, eqb-true}
use Rattle.numbers.specs.Choice.{pick}
use Rattle.glass.specs.Exact.{drive, drives}
use Rattle.glass.proofs.Exactly.{drive_le}
use Rattle.waveform.specs.declared.Phase.{Phase}
use Rattle.waveform.specs.Phases.{driven, joined}
use Rattle.waveform.specs.Exact.{frames_drive, lasts, all_drives, cut_drives}
use Rattle.voltage_shift.specs.Shift.{sum}
use Rattle.voltage_shift_laws.proofs.Apart.{Near, Apart, exact_apart, drive_near}

farther : {x y m n : ℕ} → m ≤ n → Near x y m → Near x y n
farther h k = record { above = omega arith; below = omega arith }

-- two phases of the same frames, no more than n millivolts apart
pub record PhasesApart (p q : Phase) (n : ℕ) : Type 0 where
  pub frames : q.frames ≡ p.frames
  pub period : q.frame_ns ≡ p.frame_ns
  pub apart : Apart p.millivolts q.millivolts n

-- two lists of such phases, no more than n millivolts × nanoseconds apart in all
pub data Paired : List Phase → List Phase → ℕ → Type 0 where
  none : Paired [] [] 0
  more : {p q : Phase} {ps qs : List Phase} {c n : ℕ} → PhasesApart p q c → Paired ps qs n → Paired (p ∷ ps) (q ∷ qs) (c * p.frames * p.frame_ns + n)

-- as many frames of both
frames_near : (S : ℕ) (black : Bool) (p q : Phase) {c x y m : ℕ} (r s : ℕ) → s ≡ r → r ≤ p.frames → PhasesApart p q c → x ≤ S → y ≤ S → Near x y m
    → Near (drive S (frames_drive black p r) x) (drive S (frames_drive black q s) y) (m + c * p.frames * p.frame_ns)
frames_near S black p q {c} {x} {y} {m} r s e h a kx ky n = farther (omega (arith, mul-le-mul_right p.frame_ns (mul-le-mul_left c h))) (drive_near S (frames_drive black p r) (frames_drive black q s) kx ky by n)
  where
    by : Apart (frames_drive black p r) (frames_drive black q s) (c * r * p.frame_ns)
    by = rw (e, a.period) (exact_apart black r p.frame_ns a.apart)

regroup : {x y : ℕ} (m k n : ℕ) → Near x y (m + k + n) → Near x y (m + (k + n))
regroup m k n = farther (omega arith)

module _ (S : ℕ) (black : Bool) where
  -- every phase to its end
  pub whole_near : {ps qs : List Phase} {n : ℕ} → Paired ps qs n → {x y m : ℕ} → x ≤ S → y ≤ S → Near x y m
      → Near (drives S (all_drives black ps) x) (drives S (all_drives black qs) y) (m + n)
  unfolding drives all_drives
  whole_near none h k r = farther (omega arith) r
  whole_near (more {p} {q} {ps} {qs} {c} {n} a t) {x} {y} {m} h k r =
      regroup m _ n
      (whole_near t (drive_le S _ x h) (drive_le S _ y k) (frames_near S black p q p.frames q.frames a.frames (omega arith) a h k r))

  -- up to a cut
  pub cut_near : {ps qs : List Phase} {n : ℕ} → Paired ps qs n → (t : ℕ) {x y m : ℕ} → x ≤ S → y ≤ S → Near x y m
      → Near (drives S (cut_drives black t ps) x) (drives S (cut_drives black t qs) y) (m + n)
  unfolding drives cut_drives
  cut_near none t h k r = farther (omega arith) r
  cut_near (more {p} {q} {ps} {qs} {c} {n} a w) t {x} {y} {m} h k r = by (λ u v l a b f. cut_near w (t - lasts p) a b f) (leb (lasts p) t) refl
    where
      long : lasts q ≡ lasts p
      long = rw (a.frames, a.period) refl

      by : ((u v l : ℕ) → u ≤ S → v ≤ S → Near u v l → Near (drives S (cut_drives black (t - lasts p) ps) u) (drives S (cut_drives black (t - lasts p) qs) v) (l + n))
          → (b : Bool) → leb (lasts p) t ≡ b → Near (drives S (cut_drives black t (p ∷ ps)) x) (drives S (cut_drives black t (q ∷ qs)) y) (m + (c * p.frames * p.frame_ns + n))
      by rest true e = rw (long, e) (regroup m _ n (rest _ _ _ (drive_le S _ x h) (drive_le S _ y k) (frames_near S black p q p.frames q.frames a.frames (omega arith) a h k r)))
      by rest false e =
          rw (long, e)
          (farther (omega arith)
          (frames_near S black p q (t / p.frame_ns) (t / q.frame_ns) (ap (λ (k : ℕ). t / k) a.period) (div-le_of_le-mul p.frame_ns (omega (arith, leb-false (lasts p) t e, mul_comm p.frames p.frame_ns))) a h k r))

-- ---- lists put together
pub same : {ps qs : List Phase} {m n : ℕ} → m ≡ n → Paired ps qs m → Paired ps qs n
same {ps} {qs} e r = subst (Paired ps qs) e r

two : {ps qs rs ss : List Phase} {m n : ℕ} → Paired ps qs m → Paired rs ss n → Paired (ps ++ rs) (qs ++ ss) (m + n)
two none r = same (omega arith) r
two (more a t) r = same (omega arith) (more a (two t r))

pub joined_paired : (n : ℕ) (f g : ℕ → List Phase) (h : ℕ → ℕ) → ((k : ℕ) → Paired (f k) (g k) (h k)) → Paired (joined n f) (joined n g) (sum n h)
unfolding joined sum
joined_paired zero f g h r = none
joined_paired (suc n) f g h r = two (joined_paired n f g h r) (r n)

-- a phase of 0 frames is passed over
pub driven_paired : (p q : Phase) {c : ℕ} → PhasesApart p q c → Paired (driven p) (driven q) (c * p.frames * p.frame_ns)
unfolding driven
driven_paired p q {c} a =
    subst (λ (n : ℕ). Paired (pick (eqb p.frames 0) [] (p ∷ [])) (pick (eqb n 0) [] (q ∷ [])) (c * p.frames * p.frame_ns)) (sym a.frames) (by (eqb p.frames 0) refl)
  where
    by : (b : Bool) → eqb p.frames 0 ≡ b → Paired (pick b [] (p ∷ [])) (pick b [] (q ∷ [])) (c * p.frames * p.frame_ns)
    by true e = let z = eqb-true p.frames 0 e in same (sym (rw (z, mul-zero c) (zero-mul p.frame_ns))) none
    by false e = same (omega arith) (more a none)

-- phases beside themselves
pub itself : (ps : List Phase) → Paired ps ps 0
itself [] = none
itself (p ∷ ps) = same (rw (zero-mul, zero-mul)) (more {c = 0} (record { frames = refl; period = refl; apart = record { above = omega arith; below = omega arith } }) (itself ps))
