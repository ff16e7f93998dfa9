-- `data::take_surplus` meets its contract.
use mathlib.Core.Path.{refl}
use Rattle.data.proofs.Cases.{goes_on, is_surplus}
use Rattle.world.specs.World.{with_ram}
use Rattle.data.proofs.take_surplus.Goals as goal

pub returns : goal.returns
returns c = λ b d. is_surplus c.args.active (with_ram c.args.state b d c.args.log.now) _ _ c.report_extra-noted.ensures (goes_on c.report_extra-noted.result _ _ _ _ refl c.count.ensures c.go_on.ensures)
