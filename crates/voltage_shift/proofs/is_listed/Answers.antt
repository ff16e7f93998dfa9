-- `voltage_shift::is_listed` meets its contract.
use mathlib.Core.Path.{ap, ◌∙◌}
use Rattle.voltage.specs.Codes.{is_voltage}
use Rattle.voltage_shift.proofs.is_listed.Goals as goal

pub returns : goal.returns
returns c = c.is_some.ensures ∙ ap is_voltage c.driving_millivolts.ensures.is
