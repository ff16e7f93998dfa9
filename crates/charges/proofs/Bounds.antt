-- No product and no sum of a charge leaves 64 bits while no period exceeds 100,000,000 ns: a phase drives at most
-- 34,000 mV × 255 frames × the period, a group has four phases at most 256 times, and there are ten. Assumes nothing.
use mathlib.Core.Path.{◌≡◌, refl, sym, subst, ◌∙◌}
use mathlib.Core.List.{List, [], ◌∷◌, ◌++◌}
use Prim.Native.Nat.{ℕ, zero, suc, ◌+◌, ◌*◌, ◌≤◌, ◌<◌}
use native.Mathlib.Omega.{arith}
use native.Mathlib.Nat.{mul-le-mul, mul-suc, le_trans}
use lib.IntN.{ℤ, pos, negsuc, neg_ℤ, nat_abs, ◌+ℤ◌, ◌*ℤ◌}
use lib.ListN.{get_or}
use mir.Syntax.{w64}
use mir.Val.{SFits, to_z, of_z}
use Rattle.numbers.proofs.Lin.{up, down, add_out, le_out, back}
use Rattle.numbers.proofs.Painted.{get_d_tab}
use Rattle.waveform.specs.declared.Drive.{Drive}
use Rattle.waveform.specs.declared.Group.{Group}
use Rattle.waveform.specs.declared.Levels.{Levels}
use Rattle.waveform.specs.declared.Phase.{Phase}
use Rattle.waveform.specs.declared.Waveform.{Waveform}
use Rattle.waveform.specs.Voltages.{AllListable}
use Rattle.waveform.specs.Setting.{group_codes_of, timed, waveform_of}
use Rattle.waveform.specs.Phases.{phase_of, driven, joined, four_phases, group_phases, no_group}
use Rattle.waveform_laws.proofs.Range.{phase_range}
use Rattle.waveform_laws.proofs.Joined.{driven_none, driven_some}
use Rattle.waveform_laws.proofs.Decoded.{levels_listable, rate_below}
use Rattle.waveform.specs.Exact.{all_drives}
use Rattle.charges.specs.Charge.{sum_z, drive_sum, AllShort, BoundedPhase, BoundedGroup, BoundedWaveform}
use Rattle.charges.proofs.Sums.{drive_of}

-- ---- how far a product and a sum are from 0
size_neg : (n : ℕ) → nat_abs (neg_ℤ (pos n)) ≡ n
size_neg zero = refl
size_neg (suc n) = refl

size_times : (a : ℤ) (n : ℕ) → nat_abs (a *ℤ pos n) ≡ nat_abs a * n
size_times (pos a) n = refl
size_times (negsuc a) n = size_neg (suc a * n)

pub times_within : (a : ℤ) (n : ℕ) {m k : ℕ} → nat_abs a ≤ m → n ≤ k → nat_abs (a *ℤ pos n) ≤ m * k
times_within a n {m} {k} h l = subst (λ (x : ℕ). x ≤ m * k) (sym (size_times a n)) (mul-le-mul h l)

plus_within : (a b : ℤ) {m n : ℕ} → nat_abs a ≤ m → nat_abs b ≤ n → nat_abs (a +ℤ b) ≤ m + n
plus_within a b {m} {n} h k = of a b (a +ℤ b) h k (add_out a b)
  where
    of : (x y z : ℤ) → nat_abs x ≤ m → nat_abs y ≤ n → up z + (down x + down y) ≡ down z + (up x + up y) → nat_abs z ≤ m + n
    of (pos x) (pos y) (pos z) h k e = omega arith
    of (pos x) (pos y) (negsuc z) h k e = omega arith
    of (pos x) (negsuc y) (pos z) h k e = omega arith
    of (pos x) (negsuc y) (negsuc z) h k e = omega arith
    of (negsuc x) (pos y) (pos z) h k e = omega arith
    of (negsuc x) (pos y) (negsuc z) h k e = omega arith
    of (negsuc x) (negsuc y) (pos z) h k e = omega arith
    of (negsuc x) (negsuc y) (negsuc z) h k e = omega arith

pub size_fits : {z : ℤ} → nat_abs z ≤ 9223372036854775807 → SFits w64 z
size_fits {z = pos n} h = record { sfits = omega arith }
size_fits {z = negsuc n} h = record { sfits = omega arith }

-- a result that is known otherwise fits
pub fits_as : {x y : ℤ} → x ≡ y → nat_abs y ≤ 9223372036854775807 → SFits w64 x
fits_as e h = subst (SFits w64) (sym e) (size_fits h)

-- ---- what the machine reads back
-- of a number that is known otherwise, and of an unsigned one
pub read_back : {x y : ℤ} → x ≡ y → nat_abs y ≤ 9223372036854775807 → to_z w64 (of_z w64 x) ≡ y
read_back {x} e h = back (fits_as e h) ∙ e

pub counted : (n : ℕ) → n ≤ 9223372036854775807 → to_z w64 n ≡ pos n
counted n h = back {z = pos n} (size_fits h)

-- ---- the drives of some phases, each by how far it is from 0, added: no sum of a part of them is further
unfoldable pub sizes : List Phase → ℕ
sizes [] = 0
sizes (p ∷ ps) = nat_abs (drive_of p) + sizes ps

pub sum_within : (ps : List Phase) → nat_abs (drive_sum ps) ≤ sizes ps
unfolding sizes sum_z all_drives
sum_within [] = omega arith
sum_within (p ∷ ps) = plus_within (drive_of p) (drive_sum ps) (omega arith) (sum_within ps)

sizes_append : (ps qs : List Phase) → sizes (ps ++ qs) ≡ sizes ps + sizes qs
unfolding sizes
sizes_append [] qs = omega arith
sizes_append (p ∷ ps) qs = let e = sizes_append ps qs in omega arith

-- n lists, none of more than m
sizes_joined : (m : ℕ) (f : ℕ → List Phase) (n : ℕ) → ((k : ℕ) → k < n → sizes (f k) ≤ m) → sizes (joined n f) ≤ m * n
unfolding joined sizes
sizes_joined m f zero h = omega arith
sizes_joined m f (suc n) h =
    let before = sizes_joined m f n (λ k l. h k (omega arith)) in
    let last = h n (omega arith) in
    let e = sizes_append (joined n f) (f n) in
    let more = mul-suc m n in
    omega arith

-- ---- a phase
pub product_within : (p : Phase) → BoundedPhase p → nat_abs (p.millivolts *ℤ pos p.frames) ≤ 8670000
product_within p h = times_within p.millivolts p.frames h.millivolts_within h.frames_within

pub drive_within : (p : Phase) → BoundedPhase p → nat_abs (drive_of p) ≤ 867000000000000
drive_within p h = times_within (p.millivolts *ℤ pos p.frames) p.frame_ns (product_within p h) h.period_within

sizes_driven : (p : Phase) → BoundedPhase p → sizes (driven p) ≤ 867000000000000
unfolding sizes
sizes_driven p h = by p.frames refl
  where
    by : (n : ℕ) → p.frames ≡ n → sizes (driven p) ≤ 867000000000000
    by zero e = subst (λ (l : List Phase). sizes l ≤ 867000000000000) (sym (driven_none p e)) (omega arith)
    by (suc n) e = subst (λ (l : List Phase). sizes l ≤ 867000000000000) (sym (driven_some p (λ z. omega arith))) (omega (arith, drive_within p h))

size_of : (z : ℤ) → up z ≤ 34000 + down z → down z ≤ 34000 + up z → nat_abs z ≤ 34000
size_of (pos n) h k = omega arith
size_of (negsuc n) h k = omega arith

-- ---- a group
module _ (l : Levels) (drive : Drive) (g : Group) (listable : AllListable l) (bounded : BoundedGroup g) where
  pub phase_bounded : (k : ℕ) → BoundedPhase (phase_of l drive g k)
  unfolding phase_of
  phase_bounded k =
      let r = phase_range l drive g k listable in
      record {
        millivolts_within = size_of (phase_of l drive g k).millivolts (omega (arith, le_out r.1)) (omega (arith, le_out r.0));
        frames_within = bounded.frames_within k;
        period_within = bounded.period_within;
      }

  phases_sizes : (n : ℕ) → sizes (joined n (λ k. driven (phase_of l drive g k))) ≤ 867000000000000 * n
  phases_sizes n = sizes_joined 867000000000000 (λ k. driven (phase_of l drive g k)) n (λ k h. sizes_driven (phase_of l drive g k) (phase_bounded k))

  group_sizes : sizes (group_phases l drive g) ≤ 887808000000000000
  group_sizes = omega (arith, bounded.repeats_within, sizes_joined 3468000000000000 (λ k. four_phases l drive g) g.repeats (λ k h. phases_sizes 4))

  -- the first n phases of a pass
  pub phases_within : (n : ℕ) → nat_abs (drive_sum (joined n (λ k. driven (phase_of l drive g k)))) ≤ 867000000000000 * n
  phases_within n = le_trans (sum_within (joined n (λ k. driven (phase_of l drive g k)))) (phases_sizes n)

  -- all repeats
  pub group_within : nat_abs (drive_sum (group_phases l drive g)) ≤ 887808000000000000
  group_within = le_trans (sum_within (group_phases l drive g)) group_sizes

-- ---- the first n groups
abbrev pub groups_of : Waveform → Drive → ℕ → List Phase
groups_of w drive k = group_phases w.levels drive (get_or w.groups k no_group)

pub groups_sizes : (w : Waveform) (drive : Drive) → BoundedWaveform w → (n : ℕ) → n ≤ 10 → sizes (joined n (groups_of w drive)) ≤ 887808000000000000 * n
groups_sizes w drive h n l =
    sizes_joined 887808000000000000 (groups_of w drive) n
    (λ k j. group_sizes w.levels drive (get_or w.groups k no_group) h.listable (h.groups_bounded k (omega arith)))

pub groups_within : (w : Waveform) (drive : Drive) → BoundedWaveform w → (n : ℕ) → n ≤ 10 → nat_abs (drive_sum (joined n (groups_of w drive))) ≤ 887808000000000000 * n
groups_within w drive h n l = le_trans (sum_within (joined n (groups_of w drive))) (groups_sizes w drive h n l)

-- ---- a setting
module _ (s p : List ℕ) (bytes : (i : ℕ) → get_or s i 0 < 256) (periods : AllShort p) where
  frames_of_fits : (g k : ℕ) → get_or (group_codes_of s g).frames k 0 ≤ 255
  unfolding group_codes_of
  frames_of_fits g zero = omega (arith, bytes (50 + 5 * g))
  frames_of_fits g (suc zero) = omega (arith, bytes (51 + 5 * g))
  frames_of_fits g (suc (suc zero)) = omega (arith, bytes (52 + 5 * g))
  frames_of_fits g (suc (suc (suc zero))) = omega (arith, bytes (53 + 5 * g))
  frames_of_fits g (suc (suc (suc (suc k)))) = omega arith

  group_bounded : (g : ℕ) → BoundedGroup (timed p (group_codes_of s g))
  unfolding group_codes_of
  group_bounded g =
      record {
        frames_within = frames_of_fits g;
        repeats_within = omega (arith, bytes (54 + 5 * g));
        period_within = periods (group_codes_of s g).frame_rate (rate_below s g);
      }

  pub setting_bounded : BoundedWaveform (waveform_of s p)
  unfolding waveform_of
  setting_bounded =
      record {
        listable = levels_listable s;
        groups_bounded = λ k l. subst BoundedGroup (sym (get_d_tab 10 (λ g. timed p (group_codes_of s g)) k no_group l)) (group_bounded k);
      }
