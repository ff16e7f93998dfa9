-- Worked examples of the bound: LUT 0 at code 1 for one frame of 20 ms, VSH1 from 9.0 V to 9.2 V, with 6 V·s of swing. Assumes nothing.
use Rattle.std.specs.Prelude.{None}
use mathlib.Core.Path.{◌≡◌, refl}
use mathlib.Core.Bool.{false}
use mathlib.Core.List.{List, [], ◌∷◌}
use Prim.Native.Nat.{ℕ, ◌*◌}
use lib.IntN.{ℤ, pos, nat_abs, ◌-ℤ◌}
use lib.ListN.{set, replicate}
use Rattle.numbers.specs.Lists.{tab}
use Rattle.numbers.specs.Saturation.{clamp_z}
use Rattle.glass.specs.Transfers.{apply_t}
use Rattle.voltage.specs.Codes.{voltage}
use Rattle.waveform.specs.declared.Drive.TheVariants.{Lut}
use Rattle.waveform.specs.Voltages.{levels_of, source_level, vcom_swing}
use Rattle.waveform.specs.Setting.{codes_of, frame_rate_of, group_codes_of, waveform_of}
use Rattle.waveform.specs.Phases.{phase_of, driven, joined}
use Rattle.waveform.specs.Walks.{saturated_drive, pushed, whole_transfer}
use Rattle.panel.specs.Finish.{setting_transfer}
use Rattle.voltage_shift.specs.declared.DrivingVoltage.{DrivingVoltage}
use Rattle.voltage_shift.specs.declared.DrivingVoltage.TheVariants.{Vsh1, Vsh2}
use Rattle.voltage_shift.specs.Shift.{source_uses, vcom_uses, sum, phase_shift, group_shift, shift_of, bound_of}

-- phase 0 of group 0 has one frame, the source's code 1 for LUT 0, and VCOM's code; the group runs `again` times more
abbrev setting : ℕ → ℕ → ℕ → List ℕ
setting vcom again vsh1 = set (set (set (set (set (replicate 112 0) 0 0x40) 40 (0x40 * vcom)) 50 1) 54 again) 106 vsh1

abbrev periods : List ℕ
periods = replicate 16 20000000

-- black, afterwards
black_after : ℕ → ℤ
black_after vsh1 = apply_t (setting_transfer (setting 0 0 vsh1) periods (Lut 0) (pos 6000000000000) false None) (pos 0)

bound : ℕ → ℕ → ℕ → DrivingVoltage → ℕ
bound S vcom again v = bound_of S 200 v (waveform_of (setting vcom again 0x23) periods).groups 0

-- the bound of this one setting and LUT, shown whole, is met
met : nat_abs (black_after 0x23 -ℤ black_after 0x24) ≡ bound 6000000000000 0 0 Vsh1
unfolding black_after bound whole_transfer waveform_of group_codes_of codes_of frame_rate_of levels_of voltage source_level vcom_swing phase_of driven joined pushed saturated_drive clamp_z tab source_uses vcom_uses sum phase_shift group_shift shift_of
met = refl

-- 200 mV × 20 ms; 256 times that; no more than S; 0 where VCOM uses VSH1 too, and for VSH2, which VCOM's code 3 does not use
others : bound 6000000000000 0 0 Vsh1 ∷ bound 6000000000000 0 255 Vsh1 ∷ bound 3 0 0 Vsh1 ∷ bound 6000000000000 1 0 Vsh1 ∷ bound 6000000000000 3 0 Vsh2 ∷ []
    ≡ 4000000000 ∷ 1024000000000 ∷ 3 ∷ 0 ∷ 0 ∷ []
unfolding bound waveform_of group_codes_of codes_of frame_rate_of tab source_uses vcom_uses sum phase_shift group_shift shift_of
others = refl
