-- `can_gray` meets its contract.
use mathlib.Core.Path.{ap}
use mathlib.Core.Bool.{◌&&◌}
use lib.Dec.{eqb}
use lib.IntN.{ℤ, pos}
use lib.Signed.{le_z}
use Rattle.numbers.proofs.Lin.{back}
use Rattle.bench.specs.Asked.{grayable}
use Rattle.bench.proofs.asked.can_gray.Goals as goal

pub returns : goal.returns
unfolding grayable
returns c = ap (λ (z : ℤ). le_z (pos 1) z && eqb c.args.pixels c.args.states) (back c.ranges.swing)
