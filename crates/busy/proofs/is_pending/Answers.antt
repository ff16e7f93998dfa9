-- `is_pending` meets its contract: by whether there is a deadline.
use Rattle.busy.specs.Busy.{pending}
use Rattle.busy.proofs.is_pending.Goals as goal

pub returns-in-None : goal.returns-in-None
unfolding pending
returns-in-None c = rw c.in-None.is

pub returns-in-Some : goal.returns-in-Some
unfolding pending
returns-in-Some c = rw c.in-Some.is
