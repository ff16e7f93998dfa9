-- `query_state::dropped_diagnostics` meets its contract.
use mathlib.Core.Path.{refl}
use Rattle.query.proofs.Cases.{asks}
use Rattle.query.specs.Queries.{dropped_asked}
use Rattle.query_state.proofs.dropped_diagnostics.Goals as goal

pub returns : goal.returns
unfolding dropped_asked
returns c = asks _ _ _ _ _ _ c.check_state.ensures refl c.and.ensures
