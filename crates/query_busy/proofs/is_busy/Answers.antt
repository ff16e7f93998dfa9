-- `query_busy::is_busy` meets its contract.
use Rattle.query.proofs.Cases.{asks}
use Rattle.query.specs.Queries.{busy_asked}
use Rattle.query_busy.proofs.is_busy.Goals as goal

pub returns : goal.returns
unfolding busy_asked
returns c = asks _ _ _ _ _ _ c.check_state.ensures c.busy.ensures c.and.ensures
