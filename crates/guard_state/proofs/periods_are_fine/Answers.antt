-- `guard_state::periods_are_fine` meets its contract: no period of sixteen is 0 just if there is no lowest that is.
use mathlib.Core.Path.{refl}
use Rattle.otp.specs.Search.{any_of}
use Rattle.guard_state.proofs.Periods.{none_zero}
use Rattle.guard_state.proofs.periods_are_fine.Goals as goal

pub returns : goal.returns
unfolding any_of
returns c = none_zero _ _ refl
