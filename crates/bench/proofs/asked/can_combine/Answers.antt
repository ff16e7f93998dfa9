-- `can_combine` meets its contract.
use mathlib.Core.Bool.{◌&&◌}
use lib.IntN.{pos}
use lib.Signed.{le_z}
use Rattle.numbers.proofs.Lin.{back}
use Rattle.bench.specs.Asked.{combinable}
use Rattle.bench.proofs.asked.can_combine.Goals as goal

pub returns : goal.returns
unfolding combinable
returns c = let s = c in λ i. c.can_walk.ensures i && le_z (pos 1) (back s.ranges.swing i)
