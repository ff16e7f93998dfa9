-- `clock::move_clock` meets its contract.
use Rattle.clock.proofs.Cases.{moves}
use Rattle.clock.proofs.move_clock.Goals as goal

pub returns : goal.returns
returns c = moves _ _ _ _ c.max-latest.ensures c.set_now.ensures
