-- `shift_report::number_of` meets its contract.
use mathlib.Core.Path.{◌∙◌}
use Rattle.voltage_shift.specs.Bounds.{shift_refusal}
use Rattle.shift_report.proofs.number_of.Goals as goal

pub returns-in-Parameters : goal.returns-in-Parameters
unfolding shift_refusal
returns-in-Parameters c = c.config_number.ensures ∙ rw c.in-Parameters.is

pub returns-in-NotASetting : goal.returns-in-NotASetting
unfolding shift_refusal
returns-in-NotASetting c = rw c.in-NotASetting.is

pub returns-in-UnlistedCode : goal.returns-in-UnlistedCode
unfolding shift_refusal
returns-in-UnlistedCode c = rw c.in-UnlistedCode.is
