-- The bound of the charge is reached, in both signs. Assumes nothing.
use mathlib.Core.Path.{◌≡◌, refl, ◌∙◌}
use Prim.Native.Nat.{ℕ, zero, suc}
use lib.IntN.{ℤ, pos, negsuc, ◌+ℤ◌, ◌*ℤ◌}
use lib.ListN.{get_or}
use Rattle.numbers.specs.Lists.{tab}
use Rattle.voltage.specs.Codes.{voltage}
use Rattle.waveform.specs.declared.Drive.TheVariants.{Lut}
use Rattle.waveform.specs.declared.Waveform.{Waveform}
use Rattle.waveform.specs.Voltages.{levels_of, source_level, vcom_swing}
use Rattle.waveform.specs.Setting.{codes_of, frame_rate_of, group_codes_of, waveform_of}
use Rattle.waveform.specs.Phases.{phase_of, driven, joined, four_phases, group_phases, no_group}
use Rattle.waveform.specs.Exact.{all_drives}
use Rattle.charges.specs.Charge.{sum_z, drive_sum, charge_of}
use Rattle.charges.proofs.Sums.{sum_append, sum_repeats}
use Rattle.charges_laws.specs.Worst.{most_setting, least_setting, longest_periods}

-- a charge by its groups, each pass once, times its repeats
unfoldable by_groups : Waveform → ℕ → ℕ → ℤ
by_groups w lut zero = pos 0
by_groups w lut (suc n) =
    by_groups w lut n +ℤ drive_sum (four_phases w.levels (Lut lut) (get_or w.groups n no_group)) *ℤ pos (get_or w.groups n no_group).repeats

by_groups_is : (w : Waveform) (lut n : ℕ) → drive_sum (joined n (λ k. group_phases w.levels (Lut lut) (get_or w.groups k no_group))) ≡ by_groups w lut n
unfolding by_groups joined sum_z all_drives
by_groups_is w lut zero = refl
by_groups_is w lut (suc n) =
    let g = get_or w.groups n no_group in
    sum_append (joined n (λ k. group_phases w.levels (Lut lut) (get_or w.groups k no_group))) (group_phases w.levels (Lut lut) g)
    ∙ (λ i. by_groups_is w lut n i +ℤ sum_repeats g.repeats (four_phases w.levels (Lut lut) g) i)

-- the checker computes the ten passes
most_by_groups : by_groups (waveform_of most_setting longest_periods) 0 10 ≡ pos 8878080000000000000
unfolding by_groups tab voltage waveform_of group_codes_of codes_of frame_rate_of levels_of source_level vcom_swing phase_of driven joined sum_z all_drives
most_by_groups = refl

least_by_groups : by_groups (waveform_of least_setting longest_periods) 0 10 ≡ negsuc 8878079999999999999
unfolding by_groups tab voltage waveform_of group_codes_of codes_of frame_rate_of levels_of source_level vcom_swing phase_of driven joined sum_z all_drives
least_by_groups = refl

pub most_reached : charge_of most_setting longest_periods 0 ≡ pos 8878080000000000000
most_reached = by_groups_is (waveform_of most_setting longest_periods) 0 10 ∙ most_by_groups

pub least_reached : charge_of least_setting longest_periods 0 ≡ negsuc 8878079999999999999
least_reached = by_groups_is (waveform_of least_setting longest_periods) 0 10 ∙ least_by_groups
