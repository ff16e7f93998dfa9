use mathlib.Core.Path.{◌≡◌}
use mathlib.Core.List.{List}
use Prim.Native.Nat.{ℕ, min}
use lib.ListN.{get_or}
use Rattle.numbers.specs.Saturation.{largest}
use Rattle.waveform.specs.declared.Group.{Group}
use Rattle.waveform.specs.Phases.{no_group}
use Rattle.voltage_shift.specs.declared.DrivingVoltage.{DrivingVoltage}
use Rattle.voltage_shift.specs.Shift.{sum, group_shift}
use Rattle.voltage_shift.proofs.VoltageChange.waveform_shift.Given as goal

abbrev pub shiftIn : ℕ → DrivingVoltage → ℕ → List Group → ℕ → ℕ
shiftIn change v lut groups k = group_shift change v (get_or groups k no_group) lut

abbrev pub invariant-loop-group : goal.invariant-loop-group
invariant-loop-group l = (l.total ≡ min (sum l.group-index (shiftIn l.fn.self.millivolts l.fn.self.driving l.fn.lut l.group-items)) (largest 64))
