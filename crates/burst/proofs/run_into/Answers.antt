-- `burst::run_into` meets its contract.
use Rattle.burst.proofs.Cases.{runs_into}
use Rattle.burst.proofs.run_into.Goals as goal

pub returns : goal.returns
returns c =
    let s = c.args in
    runs_into s.events.kinds.now s.events.times.now s.events.values.now _ s.from s.state s.active s.plane.now _ _ _ c.course_of-course.ensures c.run_on-run.ensures c.put_back-after.ensures
