-- `parameter::check_listed` meets its contract.
use Rattle.parameter.proofs.Cases.{checks_listed}
use Rattle.parameter.proofs.check_listed.Goals as goal

pub returns : goal.returns
returns c = checks_listed _ _ _ _ _ _ c.is_listed-is_listed.ensures c.check.ensures
