-- `stages::wait` meets its contract.
use Rattle.stages.proofs.Cases.{waits}
use Rattle.stages.proofs.wait.Goals as goal

pub returns : goal.returns
returns c = waits _ _ _ c.saturating_add-sum.ensures
