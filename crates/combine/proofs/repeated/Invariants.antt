use Rattle.combine.proofs.Powers.{Halving}
use Rattle.combine.proofs.repeated.Given as goal

abbrev pub invariant-loop-left : goal.invariant-loop-left
invariant-loop-left l = Halving l.initial.done l.initial.power l.times l.done l.power l.left

abbrev pub decreases-loop-left : goal.decreases-loop-left
decreases-loop-left l = l.left
