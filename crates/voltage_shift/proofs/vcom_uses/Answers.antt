-- `voltage_shift::vcom_uses` meets its contract.
use Rattle.voltage_shift.specs.Shift.{vcom_uses}
use Rattle.voltage_shift.proofs.vcom_uses.Goals as goal

pub returns-in-Vsh1 : goal.returns-in-Vsh1
unfolding vcom_uses
returns-in-Vsh1 c = rw c.in-Vsh1.is

pub returns-in-Vsh2 : goal.returns-in-Vsh2
unfolding vcom_uses
returns-in-Vsh2 c = rw c.in-Vsh2.is

pub returns-in-Vsl : goal.returns-in-Vsl
unfolding vcom_uses
returns-in-Vsl c = rw c.in-Vsl.is
