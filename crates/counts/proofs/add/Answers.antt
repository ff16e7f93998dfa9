-- `counts::add` meets its contract. Assumes nothing.
use mathlib.Core.Path.{refl}
use Rattle.counts.specs.Tables.{one_more}
use Rattle.counts.proofs.add.Goals as goal

pub returns : goal.returns
unfolding one_more
returns c = refl
