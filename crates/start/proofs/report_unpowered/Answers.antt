-- `start::report_unpowered` meets its contract.
use Rattle.start.proofs.Cases.{has_power, lacks_analog, lacks_clock}
use Rattle.start.proofs.report_unpowered.Goals as goal

pub returns-then-state-2 : goal.returns-then-state-2
returns-then-state-2 c = has_power _ _ c.if-state.true c.if-state-2.true

pub returns-then-state : goal.returns-then-state
returns-then-state c = lacks_analog _ _ _ c.if-state.true c.if-state-2.false c.report.ensures

pub returns : goal.returns
returns c = lacks_clock _ _ _ c.if-state.false c.report-2.ensures
