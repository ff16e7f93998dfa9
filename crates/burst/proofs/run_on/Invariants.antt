use mathlib.Core.Path.{◌≡◌}
use Prim.Native.Nat.{◌-◌}
use Rattle.burst.specs.Running.{running}
use Rattle.burst.proofs.run_on.Given as goal

abbrev pub invariant-loop-i : goal.invariant-loop-i
invariant-loop-i l =
    running l.events.kinds.now l.events.times.now l.events.values.now l.course (l.events.count - l.i) l.i l.next l.plane
    ≡ running l.events.kinds.now l.events.times.now l.events.values.now l.course (l.events.count - l.from) l.from l.initial.next l.initial.plane

abbrev pub decreases-loop-i : goal.decreases-loop-i
decreases-loop-i l = l.events.count - l.i
