-- `can_count` meets its contract.
use mathlib.Core.Path.{refl}
use Rattle.bench.specs.Asked.{countable}
use Rattle.bench.proofs.asked.can_count.Goals as goal

pub returns : goal.returns
unfolding countable
returns c = refl
