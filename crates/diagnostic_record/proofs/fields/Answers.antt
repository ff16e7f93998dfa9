-- `diagnostic_record::fields` meets its contract: an arm for each kind.
use mathlib.Core.Path.{◌∙◌}
use Rattle.config.proofs.Modes.{mode_is}
use Rattle.diagnostic_record.proofs.Numbers.{stage_is}
use Rattle.diagnostic_record.proofs.fields.Goals as goal

pub returns-in-UnknownCommand : goal.returns-in-UnknownCommand
returns-in-UnknownCommand c = c.of.ensures ∙ rw c.in-UnknownCommand.is

pub returns-in-ReservedCommand : goal.returns-in-ReservedCommand
returns-in-ReservedCommand c = c.of-in-ReservedCommand.ensures ∙ rw c.in-ReservedCommand.is

pub returns-in-UnsupportedCommand : goal.returns-in-UnsupportedCommand
returns-in-UnsupportedCommand c = c.of-in-UnsupportedCommand.ensures ∙ rw c.in-UnsupportedCommand.is

pub returns-in-DataWithoutCommand : goal.returns-in-DataWithoutCommand
returns-in-DataWithoutCommand c = c.of-in-DataWithoutCommand.ensures ∙ rw c.in-DataWithoutCommand.is

pub returns-in-ExtraData : goal.returns-in-ExtraData
returns-in-ExtraData c = c.of-in-ExtraData.ensures ∙ rw c.in-ExtraData.is

pub returns-in-MissingData : goal.returns-in-MissingData
returns-in-MissingData c = c.of-in-MissingData.ensures ∙ rw c.in-MissingData.is

pub returns-in-WhileBusy : goal.returns-in-WhileBusy
returns-in-WhileBusy c = c.of-in-WhileBusy.ensures ∙ rw c.in-WhileBusy.is

pub returns-in-WhileAsleep : goal.returns-in-WhileAsleep
returns-in-WhileAsleep c = c.of-in-WhileAsleep.ensures ∙ rw c.in-WhileAsleep.is

pub returns-in-WhileInReset : goal.returns-in-WhileInReset
returns-in-WhileInReset c = c.of-in-WhileInReset.ensures ∙ rw c.in-WhileInReset.is

pub returns-in-ReservedValue : goal.returns-in-ReservedValue
returns-in-ReservedValue c = c.of-in-ReservedValue.ensures ∙ rw c.in-ReservedValue.is

pub returns-in-RamOutOfRange : goal.returns-in-RamOutOfRange
returns-in-RamOutOfRange c = c.of-in-RamOutOfRange.ensures ∙ rw c.in-RamOutOfRange.is

pub returns-in-CounterOutsideWindow : goal.returns-in-CounterOutsideWindow
returns-in-CounterOutsideWindow c = c.of-in-CounterOutsideWindow.ensures ∙ rw c.in-CounterOutsideWindow.is

pub returns-in-WithoutClock : goal.returns-in-WithoutClock
returns-in-WithoutClock c = c.of-in-WithoutClock.ensures ∙ rw (stage_is c.in-WithoutClock.stage, c.in-WithoutClock.is)

pub returns-in-WithoutAnalog : goal.returns-in-WithoutAnalog
returns-in-WithoutAnalog c = c.of-in-WithoutAnalog.ensures ∙ rw (stage_is c.in-WithoutAnalog.stage, c.in-WithoutAnalog.is)

pub returns-in-NoWaveform : goal.returns-in-NoWaveform
returns-in-NoWaveform c = c.of-in-NoWaveform.ensures ∙ rw (mode_is c.in-NoWaveform.mode, c.in-NoWaveform.is)

pub returns-in-NoExternalSensor : goal.returns-in-NoExternalSensor
returns-in-NoExternalSensor c = c.of-in-NoExternalSensor.ensures ∙ rw c.in-NoExternalSensor.is

pub returns-in-RamPingPong : goal.returns-in-RamPingPong
returns-in-RamPingPong c = c.of-in-RamPingPong.ensures ∙ rw c.in-RamPingPong.is

pub returns-in-NothingToRead : goal.returns-in-NothingToRead
returns-in-NothingToRead c = c.of-in-NothingToRead.ensures ∙ rw c.in-NothingToRead.is

pub returns-in-ResetDuringDisplay : goal.returns-in-ResetDuringDisplay
returns-in-ResetDuringDisplay c = c.of-in-ResetDuringDisplay.ensures ∙ rw c.in-ResetDuringDisplay.is
