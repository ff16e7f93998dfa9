-- `clock::end_display` meets its contract.
use Rattle.clock.proofs.Cases.{ends, ends_not, ends_none}
use Rattle.clock.proofs.end_display.Goals as goal

pub returns-in_default : goal.returns-in_default
returns-in_default c = ends_none _ _ c.in_default.is

pub returns-then-display-state : goal.returns-then-display-state
returns-then-display-state c = ends _ _ _ c.in-Some.is _ _ c.if-display-state.true c.finish-finished.ensures c.set_glass.ensures

pub returns : goal.returns
returns c = ends_not _ _ _ c.in-Some.is c.if-display-state.false
