-- `guard_state::registers_are_fine` meets its contract.
use mathlib.Core.Path.{refl}
use Rattle.guard_state.specs.State.{registers_fine}
use Rattle.guard_state.proofs.registers_are_fine.Goals as goal

pub returns : goal.returns
unfolding registers_fine
returns c = refl
