-- What `bounds` answers (SCOPE, Sensitivity; #112): a bound for each LUT 0 to 3, or one of the refusals 4, 5, 11 and 91.
use Rattle.std.specs.Prelude.{not, ◌||◌, List, [], ◌∷◌, ℕ, min, nat_abs, ◌-ℤ◌, length, Result, Ok, Err}
use Rattle.numbers.specs.Saturation.{largest}
use Rattle.glass.specs.declared.Optics.{Optics}
use Rattle.voltage.specs.Codes.{is_voltage}
use Rattle.waveform.specs.declared.Group.{Group}
use Rattle.waveform.specs.Voltages.{or_zero}
use Rattle.waveform.specs.Setting.{waveform_of}
use Rattle.config.specs.Answer.{Answer, accepted, refused, Test, first_of, refused_by}
use Rattle.config.specs.Tests.{swing_test, periods_test, lent_test}
use Rattle.voltage_shift.specs.declared.DrivingVoltage.{DrivingVoltage}
use Rattle.voltage_shift.specs.declared.Shift.{Shift}
use Rattle.voltage_shift.specs.declared.ShiftError.{ShiftError}
use Rattle.voltage_shift.specs.declared.ShiftError.TheVariants.{Parameters, NotASetting, UnlistedCode}
use Rattle.voltage_shift.specs.declared.Shifts.{Shifts}
use Rattle.voltage_shift.specs.Shift.{driving_millivolts, bound_of, gray_steps}

-- S: the smaller of full swing and 2^63 − 1 (SCOPE, Glass)
abbrev pub optics_swing : Optics → ℕ
optics_swing o = min o.full_swing (largest 63)

-- 91: the code before or after is not listed for its voltage
abbrev pub listed_test : DrivingVoltage → ℕ → ℕ → Test
listed_test v before after =
    record { number = 91; value = 0; refuses = not (is_voltage (driving_millivolts v before)) || not (is_voltage (driving_millivolts v after)) }

-- 11, 91
abbrev pub setting_tests : List ℕ → DrivingVoltage → ℕ → ℕ → List Test
setting_tests s v before after = lent_test (length s) 112 ∷ listed_test v before after ∷ []

-- 4, 5, 11, 91
abbrev pub bounds_tests : Optics → List ℕ → List ℕ → DrivingVoltage → ℕ → ℕ → List Test
bounds_tests o p s v before after = swing_test o ∷ periods_test p ∷ setting_tests s v before after

-- the change in millivolts, taken without its sign
abbrev pub change_of : DrivingVoltage → ℕ → ℕ → ℕ
change_of v before after = nat_abs (or_zero (driving_millivolts v before) -ℤ or_zero (driving_millivolts v after))

-- the bound of a LUT, and the same in steps of grey
abbrev pub lut_shift : ℕ → ℕ → DrivingVoltage → List Group → ℕ → Shift
lut_shift S change v groups lut = record { bound = bound_of S change v groups lut; steps = gray_steps S (bound_of S change v groups lut) }

-- those of LUT 0 to 3
abbrev pub lut_shifts : ℕ → ℕ → DrivingVoltage → List Group → Shifts
lut_shifts S change v groups =
    record { lut0 = lut_shift S change v groups 0; lut1 = lut_shift S change v groups 1; lut2 = lut_shift S change v groups 2; lut3 = lut_shift S change v groups 3 }

-- those of a change from one code to another; the setting's own code of the voltage plays no part
abbrev pub shifts_for : Optics → List ℕ → List ℕ → DrivingVoltage → ℕ → ℕ → Shifts
shifts_for o p s v before after = lut_shifts (optics_swing o) (change_of v before after) v (waveform_of s p).groups

-- the bounds, or a refusal with its number and value
pub data ShiftAnswer : Type 0 where
  shifting : Shifts → ShiftAnswer
  refusing : Answer → ShiftAnswer

-- the bounds where nothing is refused
abbrev pub shifting_unless : Answer → Shifts → ShiftAnswer
shifting_unless accepted b = shifting b
shifting_unless (refused n v) b = refusing (refused n v)

-- what the call answers, for all that it may be given
unfoldable pub bounds_of : Optics → List ℕ → List ℕ → DrivingVoltage → ℕ → ℕ → ShiftAnswer
bounds_of o p s v before after = shifting_unless (first_of (bounds_tests o p s v before after)) (shifts_for o p s v before after)

-- the number and the value of each error
unfoldable pub shift_refusal : ShiftError → Answer
shift_refusal (Parameters error) = refused_by error
shift_refusal NotASetting = refused 11 0
shift_refusal UnlistedCode = refused 91 0

-- what each case of the answer stands for
unfoldable pub shift_answer : Result Shifts ShiftError → ShiftAnswer
shift_answer (Ok b) = shifting b
shift_answer (Err error) = refusing (shift_refusal error)
