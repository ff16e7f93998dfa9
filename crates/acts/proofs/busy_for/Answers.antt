-- `acts::busy_for` meets its contract.
use Rattle.acts.proofs.busy_for.Goals as goal

pub returns : goal.returns
returns c = rw (c.set_bus.ensures, c.busy_for-bus.ensures)
