-- `begin::make_current` meets its contract.
use mathlib.Core.Path.{ap, ◌∙◌}
use Rattle.device.specs.Parts.{with_bus}
use Rattle.begin.specs.Begin.{command_made}
use Rattle.begin.proofs.make_current.Goals as goal

pub returns : goal.returns
unfolding command_made
returns c = c.set_bus.ensures ∙ ap (with_bus c.args.state) c.set_current-bus.ensures
