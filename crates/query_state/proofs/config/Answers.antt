-- `query_state::config` meets its contract.
use mathlib.Core.Path.{refl}
use Rattle.query.proofs.Cases.{asks_part}
use Rattle.query.specs.Queries.{config_asked}
use Rattle.query_state.proofs.config.Goals as goal

pub returns : goal.returns
unfolding config_asked
returns c = asks_part (λ d. d.config) c.args.state _ _ _ _ c.check_given.ensures refl c.and.ensures
