-- `moment::ns_between` meets its contract.
use Rattle.moment.specs.Moments.{ns_between}
use Rattle.moment.proofs.ns_between.Goals as goal

pub returns : goal.returns
unfolding ns_between
returns c = cc (c.cycles_to_nanos.ensures, c.saturating_sub.ensures)
