-- `data::report_range` meets its contract.
use Rattle.data.proofs.Cases.{past, past_first}
use Rattle.world.specs.World.{with_log}
use Rattle.data.proofs.report_range.Goals as goal

pub returns-then-active : goal.returns-then-active
returns-then-active c = past c.args.active (with_log c.args.state c.args.log.now) c.if-active.true

pub returns : goal.returns
returns c = past_first c.args.active (with_log c.args.state c.args.log.now) _ c.if-active.false c.report.ensures
