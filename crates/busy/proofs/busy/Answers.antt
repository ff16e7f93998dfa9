-- `busy` meets its contract: by the supply and reset state.
use Rattle.busy.specs.Busy.{busy_in}
use Rattle.busy.proofs.busy.Goals as goal

pub returns-in-Running : goal.returns-in-Running
unfolding busy_in
returns-in-Running c = rw c.in-Running.is c.is_pending.ensures

pub returns-in-Asleep : goal.returns-in-Asleep
unfolding busy_in
returns-in-Asleep c = rw c.in-Asleep.is

pub returns-in-InReset : goal.returns-in-InReset
unfolding busy_in
returns-in-InReset c = rw c.in-InReset.is
