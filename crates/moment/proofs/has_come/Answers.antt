-- `moment::has_come` meets its contract.
use Rattle.moment.proofs.Cases.{comes}
use Rattle.moment.proofs.has_come.Goals as goal

pub returns-in-Some : goal.returns-in-Some
returns-in-Some c = comes _ _ _ c.in-Some.is
