use Prim.Native.Nat.{◌-◌}
use Rattle.numbers.proofs.Painted.{Painted}
use Rattle.counts.specs.Tables.{sum_at}
use Rattle.counts.proofs.join.Given as goal

abbrev pub invariant-loop-g : goal.invariant-loop-g
invariant-loop-g l = Painted l.g (sum_at l.a l.b l.c l.d) l.initial.counts l.counts

abbrev pub decreases-loop-g : goal.decreases-loop-g
decreases-loop-g l = 256 - l.g
