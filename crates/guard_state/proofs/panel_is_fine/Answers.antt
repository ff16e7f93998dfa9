-- `guard_state::panel_is_fine` meets its contract: the tests 1 to 3 accept.
use mathlib.Core.Path.{ap, ◌∙◌}
use Rattle.config.specs.Answer.{is_accepted}
use Rattle.config.proofs.Answers.{ok_accepted}
use Rattle.guard_state.specs.State.{panel_fine}
use Rattle.guard_state.proofs.panel_is_fine.Goals as goal

pub returns : goal.returns
unfolding panel_fine
returns c = c.is_ok.ensures.value ∙ ok_accepted _ c.check_geometry.result ∙ ap is_accepted c.check_geometry.ensures
