-- `power_on::chip_with` meets its contract.
use Rattle.power_on.proofs.Cases.{chips}
use Rattle.power_on.proofs.chip_with.Goals as goal

pub returns : goal.returns
returns c = chips _ _ _ c.reset-regs.ensures
