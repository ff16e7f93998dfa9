-- Two settings that differ in the code of one voltage (#112).
use Rattle.std.specs.Prelude.{◌≡◌, List, ℕ, eqb, get_or}
use Rattle.numbers.specs.Choice.{pick}
use Rattle.voltage_shift.specs.declared.DrivingVoltage.{DrivingVoltage}
use Rattle.voltage_shift.specs.declared.Shift.{Shift}
use Rattle.voltage_shift.specs.declared.Shifts.{Shifts}
use Rattle.voltage_shift.specs.Shift.{voltage_byte}

-- they agree at every place but the byte of that voltage
abbrev pub AgreeBut : DrivingVoltage → List ℕ → List ℕ → Type 0
AgreeBut v s t = (i : ℕ) → (i ≡ voltage_byte v → ⊥) → get_or s i 0 ≡ get_or t i 0

-- the shift of a LUT 0 to 3
abbrev pub shift_at : Shifts → ℕ → Shift
shift_at b lut = pick (eqb lut 0) b.lut0 (pick (eqb lut 1) b.lut1 (pick (eqb lut 2) b.lut2 b.lut3))
