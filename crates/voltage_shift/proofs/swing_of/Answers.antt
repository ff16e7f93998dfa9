-- `voltage_shift::swing_of` meets its contract.
use Rattle.voltage_shift.proofs.swing_of.Goals as goal

pub returns : goal.returns
returns c = c.min.ensures
