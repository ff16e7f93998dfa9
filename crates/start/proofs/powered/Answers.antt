-- `start::powered` meets its contract.
use mathlib.Core.Path.{refl}
use Rattle.start.specs.Start.{is_powered}
use Rattle.start.proofs.powered.Goals as goal

pub returns : goal.returns
unfolding is_powered
returns c = refl
