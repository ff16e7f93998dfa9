-- `query_busy::busy_pin` meets its contract.
use Rattle.query.proofs.Cases.{asks}
use Rattle.query.specs.Queries.{pin_asked}
use Rattle.query_busy.proofs.busy_pin.Goals as goal

pub returns : goal.returns
unfolding pin_asked
returns c = asks _ _ _ _ _ _ c.check_state.ensures c.pin.ensures c.and.ensures
