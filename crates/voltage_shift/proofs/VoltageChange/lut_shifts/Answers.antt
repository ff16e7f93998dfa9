-- `voltage_shift::VoltageChange::lut_shifts` meets its contract.
use Rattle.voltage_shift.proofs.VoltageChange.lut_shifts.Goals as goal

pub returns : goal.returns
returns c =
    λ i.
    record {
      lut0 = c.lut_shift-lut0.ensures i;
      lut1 = c.lut_shift-lut1.ensures i;
      lut2 = c.lut_shift-lut2.ensures i;
      lut3 = c.lut_shift-lut3.ensures i;
    }
