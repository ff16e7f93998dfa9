-- `can_scan` meets its contract.
use Rattle.bench.specs.Asked.{scannable}
use Rattle.bench.proofs.asked.can_scan.Goals as goal

pub returns : goal.returns
unfolding scannable
returns c = rw c.area-pixels.ensures
