-- `reset::release_reset` meets its contract.
use Rattle.reset.proofs.Cases.{releases}
use Rattle.reset.proofs.release_reset.Goals as goal

pub returns : goal.returns
returns c = releases _ _ _ c.busy_for-bus.ensures c.set_bus.ensures
