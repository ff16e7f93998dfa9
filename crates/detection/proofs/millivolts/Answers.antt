-- `detection::millivolts` meets its contract.
use Rattle.acts.proofs.Cases.{level_of, level_else}
use Rattle.detection.proofs.millivolts.Goals as goal

pub returns-then-step-ge3 : goal.returns-then-step-ge3
returns-then-step-ge3 c = level_of c.args.byte _ c.level-step.ensures c.if-step-ge3.true

pub returns : goal.returns
returns c = level_else c.args.byte _ c.level-step.ensures c.if-step-ge3.false
