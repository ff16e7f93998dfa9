-- `earlier_of` meets its contract: by which of the two there are.
use Rattle.busy.proofs.Deadlines.{the_other, the_one, of_two}
use Rattle.busy.proofs.earlier_of.Goals as goal

pub returns-in-None : goal.returns-in-None
returns-in-None c = the_other _ _ c.in-None.is

pub returns-in-None-other : goal.returns-in-None-other
returns-in-None-other c = the_one _ _ _ c.in-Some.is c.in-None-other.is

pub returns-in-Some-other : goal.returns-in-Some-other
returns-in-Some-other c = of_two _ _ _ _ _ c.in-Some.is c.in-Some-other.is c.min.ensures
