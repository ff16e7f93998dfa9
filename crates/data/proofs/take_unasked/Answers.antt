-- `data::take_unasked` meets its contract.
use Rattle.data.proofs.Cases.{ignores}
use Rattle.world.specs.World.{with_ram}
use Rattle.data.proofs.take_unasked.Goals as goal

pub returns : goal.returns
returns c = λ b d. ignores c.args.byte (with_ram c.args.state b d c.args.log.now) _ _ _ (c.report_unasked-noted.ensures b d) c.set_current-bus.ensures c.set_bus.ensures
