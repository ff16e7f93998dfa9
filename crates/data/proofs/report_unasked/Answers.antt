-- `data::report_unasked` meets its contract.
use Rattle.data.proofs.Cases.{reports_unasked, sleeps, resets}
use Rattle.world.specs.World.{with_ram}
use Rattle.data.proofs.report_unasked.Goals as goal

pub returns-in-Running : goal.returns-in-Running
returns-in-Running c = λ b d. reports_unasked c.args.byte (with_ram c.args.state b d c.args.log.now) _ _ c.in-Running.is c.report.ensures

pub returns-in-Asleep : goal.returns-in-Asleep
returns-in-Asleep c = λ b d. sleeps c.args.byte (with_ram c.args.state b d c.args.log.now) _ c.in-Asleep.is

pub returns-in-InReset : goal.returns-in-InReset
returns-in-InReset c = λ b d. resets c.args.byte (with_ram c.args.state b d c.args.log.now) _ c.in-InReset.is
