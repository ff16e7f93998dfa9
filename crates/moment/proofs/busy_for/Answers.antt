-- `moment::busy_for` meets its contract.
use Rattle.moment.proofs.Cases.{rises, rises_not}
use Rattle.moment.proofs.busy_for.Goals as goal

pub returns-then-ns-gt0 : goal.returns-then-ns-gt0
returns-then-ns-gt0 c = rises _ _ _ _ _ _ c.if-ns-gt0.true c.after-until.ensures c.set_until.ensures

pub returns : goal.returns
returns c = rises_not _ _ _ _ c.if-ns-gt0.false
