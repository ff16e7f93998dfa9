-- `query_busy::next_deadline` meets its contract.
use Rattle.query.proofs.Cases.{asks}
use Rattle.query.specs.Queries.{deadline_asked}
use Rattle.query_busy.proofs.next_deadline.Goals as goal

pub returns : goal.returns
unfolding deadline_asked
returns c = asks _ _ _ _ _ _ c.check_state.ensures c.deadline.ensures c.and.ensures
