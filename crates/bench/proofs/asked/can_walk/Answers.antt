-- `can_walk` meets its contract.
use mathlib.Core.Bool.{◌&&◌}
use lib.Dec.{ltb}
use Rattle.bench.specs.Asked.{walkable}
use Rattle.bench.proofs.asked.can_walk.Goals as goal

pub returns : goal.returns
unfolding walkable
returns c = λ i. c.last.ensures i && ltb c.args.lut 5
