-- `start::point` meets its contract.
use Rattle.start.proofs.Cases.{points, points_not}
use Rattle.start.proofs.point.Goals as goal

pub returns-then-within : goal.returns-then-within
returns-then-within c = points _ _ _ c.within.ensures c.if-within.true

pub returns : goal.returns
returns c = points_not _ _ _ _ c.within.ensures c.if-within.false c.report.ensures
