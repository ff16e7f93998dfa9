-- `voltage_shift::source_uses` meets its contract.
use Rattle.voltage_shift.specs.Shift.{source_uses}
use Rattle.voltage_shift.proofs.source_uses.Goals as goal

pub returns-in-Vsh1 : goal.returns-in-Vsh1
unfolding source_uses
returns-in-Vsh1 c = rw c.in-Vsh1.is

pub returns-in-Vsh2 : goal.returns-in-Vsh2
unfolding source_uses
returns-in-Vsh2 c = rw c.in-Vsh2.is

pub returns-in-Vsl : goal.returns-in-Vsl
unfolding source_uses
returns-in-Vsl c = rw c.in-Vsl.is
