-- `pgm::header::in_range` meets its contract.
use mathlib.Core.Path.{refl}
use Rattle.pgm.specs.Form.{in_range}
use Rattle.pgm.proofs.header.in_range.Goals as goal

pub returns : goal.returns
unfolding in_range
returns c = refl
