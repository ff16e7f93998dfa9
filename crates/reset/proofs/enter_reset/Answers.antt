-- `reset::enter_reset` meets its contract.
use Rattle.reset.specs.Reset.{in_reset}
use Rattle.reset.proofs.enter_reset.Goals as goal

pub returns : goal.returns
unfolding in_reset
returns c = c.set_bus.ensures
