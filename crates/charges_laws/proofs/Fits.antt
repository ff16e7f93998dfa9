-- Up to a period of 100,000,000 ns no charge, and no sum of the phases before any moment of it, leaves 64 bits. Assumes nothing.
use mathlib.Core.List.{List, [], ◌∷◌}
use Prim.Native.Nat.{ℕ, zero, suc, ◌≤◌, ◌<◌}
use native.Mathlib.Omega.{arith}
use native.Mathlib.Nat.{le_trans}
use lib.IntN.{nat_abs}
use lib.ListN.{take, get_or}
use mir.Syntax.{w64}
use mir.Val.{SFits}
use Rattle.waveform.specs.declared.Drive.TheVariants.{Lut}
use Rattle.waveform.specs.declared.Phase.{Phase}
use Rattle.waveform.specs.Setting.{waveform_of}
use Rattle.waveform.specs.Exact.{setting_phases}
use Rattle.charges.specs.Charge.{drive_sum, charge_of, AllShort}
use Rattle.charges.proofs.Bounds.{sizes, sum_within, size_fits, groups_sizes, setting_bounded}

-- the first n phases are no further from 0 than all
sizes_take : (n : ℕ) (ps : List Phase) → sizes (take n ps) ≤ sizes ps
unfolding sizes
sizes_take zero ps = omega arith
sizes_take (suc n) [] = omega arith
sizes_take (suc n) (p ∷ ps) = let h = sizes_take n ps in omega arith

-- for every setting of bytes
module _ (s p : List ℕ) (bytes : (i : ℕ) → get_or s i 0 < 256) (periods : AllShort p) (lut : ℕ) where
  all_sizes : sizes (setting_phases s p (Lut lut)) ≤ 8878080000000000000
  all_sizes = groups_sizes (waveform_of s p) (Lut lut) (setting_bounded s p bytes periods) 10 (omega arith)

  -- the first n phases: every partial sum of the charge
  pub partial_within : (n : ℕ) → nat_abs (drive_sum (take n (setting_phases s p (Lut lut)))) ≤ 8878080000000000000
  partial_within n =
      le_trans (sum_within (take n (setting_phases s p (Lut lut)))) (le_trans (sizes_take n (setting_phases s p (Lut lut))) all_sizes)

  pub partial_fits : (n : ℕ) → SFits w64 (drive_sum (take n (setting_phases s p (Lut lut))))
  partial_fits n = size_fits (omega (arith, partial_within n))

  -- all of them
  pub charge_within : nat_abs (charge_of s p lut) ≤ 8878080000000000000
  charge_within = le_trans (sum_within (setting_phases s p (Lut lut))) all_sizes

  pub charge_fits : SFits w64 (charge_of s p lut)
  charge_fits = size_fits (omega (arith, charge_within))
