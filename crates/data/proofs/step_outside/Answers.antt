-- `data::step_outside` meets its contract.
use Rattle.data.proofs.Cases.{goes_on, steps_outside}
use Rattle.world.specs.World.{with_ram}
use Rattle.data.proofs.step_outside.Goals as goal

pub returns : goal.returns
returns c = λ b d. steps_outside c.args.active (with_ram c.args.state b d c.args.log.now) _ _ c.report_range-noted.ensures (goes_on _ _ _ _ _ c.step-moved.ensures c.count.ensures c.go_on.ensures)
