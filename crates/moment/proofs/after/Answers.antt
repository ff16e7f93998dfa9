-- `moment::after` meets its contract.
use Rattle.moment.specs.Moments.{after_ns}
use Rattle.moment.proofs.after.Goals as goal

pub returns : goal.returns
unfolding after_ns
returns c = cc (c.saturating_add.ensures, c.nanos_to_cycles.ensures)
