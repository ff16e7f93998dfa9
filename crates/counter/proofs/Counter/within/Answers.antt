-- `Counter::within`: both axes lie inside.
use Rattle.counter.specs.Counter.{within_of}
use Rattle.counter.proofs.Counter.within.Goals as goal

pub returns : goal.returns
unfolding within_of
returns c = rw (← c.inside-x.ensures, ← c.inside-y.ensures)
