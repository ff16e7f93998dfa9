-- `power_on::unstarted` meets its contract.
use Rattle.power_on.specs.Start.{unstarted}
use Rattle.power_on.proofs.unstarted.Goals as goal

pub returns : goal.returns
unfolding unstarted
returns c = c.chip_with.ensures
