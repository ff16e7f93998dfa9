-- `start::soft_reset` meets its contract.
use Rattle.start.proofs.Cases.{resets}
use Rattle.start.proofs.soft_reset.Goals as goal

pub returns : goal.returns
returns c = resets _ _ _ _ c.restore_registers-restored.ensures c.busy_for-bus.ensures c.set_bus.ensures
