-- `power_on::clear` meets its contract.
use Rattle.power_on.proofs.Cases.{clears}
use Rattle.power_on.proofs.clear.Goals as goal

pub returns : goal.returns
returns c = clears _ _ _ _ _ _ c.fill.ensures c.fill-2.ensures c.fill-3.ensures
