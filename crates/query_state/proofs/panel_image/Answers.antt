-- `query_state::panel_image` meets its contract.
use mathlib.Core.Path.{refl}
use Rattle.query.proofs.Cases.{asks_part}
use Rattle.query.specs.Queries.{image_asked}
use Rattle.query_state.proofs.panel_image.Goals as goal

pub returns : goal.returns
unfolding image_asked
returns c = asks_part (λ d. d.panel.image) c.args.state _ _ _ _ c.check_given.ensures refl c.and.ensures
