-- `shift_report::config_number` meets its contract.
use Rattle.config.specs.Answer.{refused_by}
use Rattle.shift_report.proofs.config_number.Goals as goal

pub returns-in-EmptyPanel : goal.returns-in-EmptyPanel
unfolding refused_by
returns-in-EmptyPanel c = rw c.in-EmptyPanel.is

pub returns-in-PanelOutsideRam : goal.returns-in-PanelOutsideRam
unfolding refused_by
returns-in-PanelOutsideRam c = rw c.in-PanelOutsideRam.is

pub returns-in-OddRowsWithGd : goal.returns-in-OddRowsWithGd
unfolding refused_by
returns-in-OddRowsWithGd c = rw c.in-OddRowsWithGd.is

pub returns-in-ZeroSwing : goal.returns-in-ZeroSwing
unfolding refused_by
returns-in-ZeroSwing c = rw c.in-ZeroSwing.is

pub returns-in-ZeroFramePeriod : goal.returns-in-ZeroFramePeriod
unfolding refused_by
returns-in-ZeroFramePeriod c = rw c.in-ZeroFramePeriod.is

pub returns-in-OtpVoltage : goal.returns-in-OtpVoltage
unfolding refused_by
returns-in-OtpVoltage c = rw c.in-OtpVoltage.is

pub returns-in-BadTable : goal.returns-in-BadTable
unfolding refused_by
returns-in-BadTable c = rw c.in-BadTable.is

pub returns-in-ZeroFrequency : goal.returns-in-ZeroFrequency
unfolding refused_by
returns-in-ZeroFrequency c = rw c.in-ZeroFrequency.is
