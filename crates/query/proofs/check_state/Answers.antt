-- `query::check_state` meets its contract.
use Rattle.query.proofs.Cases.{is_fine, is_not_fine}
use Rattle.query.proofs.check_state.Goals as goal

pub returns-then-state_is_fine : goal.returns-then-state_is_fine
returns-then-state_is_fine c = is_fine _ _ c.state_is_fine.ensures c.if-state_is_fine.true

pub returns : goal.returns
returns c = is_not_fine _ _ c.state_is_fine.ensures c.if-state_is_fine.false
