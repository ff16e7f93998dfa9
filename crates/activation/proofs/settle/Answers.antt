-- `activation::settle` meets its contract.
use Rattle.activation.proofs.Cases.{settles}
use Rattle.activation.proofs.settle.Goals as goal

pub returns : goal.returns
returns c = settles _ _ _ _ _ _ c.set_loaded-regs.ensures c.busy_for-bus.ensures c.set_activated.ensures
