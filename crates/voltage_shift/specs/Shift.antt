-- How far a change of VSH1, VSH2 or VSL can move a state (SCOPE, Sensitivity; #112).
use Rattle.std.specs.Prelude.{Bool, false, not, List, ℕ, zero, suc, ◌+◌, ◌-◌, ◌*◌, ◌/◌, ◌%◌, min, eqb, get_or, ℤ, Option}
use Rattle.numbers.specs.Choice.{pick}
use Rattle.voltage.specs.Codes.{source_voltage, vsl_voltage}
use Rattle.waveform.specs.declared.Group.{Group}
use Rattle.waveform.specs.Phases.{no_group}
use Rattle.voltage_shift.specs.declared.DrivingVoltage.{DrivingVoltage}
use Rattle.voltage_shift.specs.declared.DrivingVoltage.TheVariants.{Vsh1, Vsh2, Vsl}

-- the byte of a setting that has its code (Figure 6-6)
abbrev pub voltage_byte : DrivingVoltage → ℕ
voltage_byte Vsh1 = 106
voltage_byte Vsh2 = 107
voltage_byte Vsl = 108

-- what a code of it stands for (0x04)
abbrev pub driving_millivolts : DrivingVoltage → ℕ → Option ℤ
driving_millivolts Vsh1 = source_voltage
driving_millivolts Vsh2 = source_voltage
driving_millivolts Vsl = vsl_voltage

-- a source uses VSH1 by code 1, VSL by 2, VSH2 by 3 (Table 6-6)
unfoldable pub source_uses : DrivingVoltage → ℕ → Bool
source_uses Vsh1 code = eqb (code % 4) 1
source_uses Vsh2 code = eqb (code % 4) 3
source_uses Vsl code = eqb (code % 4) 2

-- VCOM uses VSH1 by code 1, VSL by 2, VSH2 by none (Table 6-6)
unfoldable pub vcom_uses : DrivingVoltage → ℕ → Bool
vcom_uses Vsh1 code = eqb (code % 4) 1
vcom_uses Vsh2 code = false
vcom_uses Vsl code = eqb (code % 4) 2

-- exactly one of two
abbrev pub exactly_one : Bool → Bool → Bool
exactly_one a b = pick a (not b) b

-- in phase k of a group exactly one of the source of a LUT and VCOM (LUT 4) uses the voltage
abbrev pub uses_one : DrivingVoltage → Group → ℕ → ℕ → Bool
uses_one v g lut k = exactly_one (source_uses v (get_or g.codes (4 * lut + k) 0)) (vcom_uses v (get_or g.codes (16 + k) 0))

-- the frames of such a phase, else none
abbrev pub changing_frames : DrivingVoltage → Group → ℕ → ℕ → ℕ
changing_frames v g lut k = pick (uses_one v g lut k) (get_or g.frames k 0) 0

-- f 0 + f 1 + .. + f (n − 1)
unfoldable pub sum : ℕ → (ℕ → ℕ) → ℕ
sum zero f = 0
sum (suc n) f = sum n f + f n

-- the change in millivolts × frames × period, in a phase where exactly one uses the voltage
unfoldable pub phase_shift : ℕ → DrivingVoltage → Group → ℕ → ℕ → ℕ
phase_shift change v g lut k = pick (uses_one v g lut k) (change * get_or g.frames k 0 * g.frame_ns) 0

-- all phases of all repeats of a group
unfoldable pub group_shift : ℕ → DrivingVoltage → Group → ℕ → ℕ
group_shift change v g lut = sum g.repeats (λ _. sum 4 (phase_shift change v g lut))

-- those of ten groups
unfoldable pub shift_of : ℕ → DrivingVoltage → List Group → ℕ → ℕ
shift_of change v groups lut = sum 10 (λ k. group_shift change v (get_or groups k no_group) lut)

-- the bound: where the sum exceeds S, it is S
abbrev pub bound_of : ℕ → ℕ → DrivingVoltage → List Group → ℕ → ℕ
bound_of S change v groups lut = min (shift_of change v groups lut) S

-- a number of millivolts × nanoseconds in steps of grey, of which S has 255, rounded up
unfoldable pub gray_steps : ℕ → ℕ → ℕ
gray_steps S n = (255 * n + (S - 1)) / S
