use Prim.Native.Nat.{◌-◌}
use lib.IntN.{pos}
use lib.ListN.{get_or}
use Rattle.numbers.proofs.Painted.{Painted}
use Rattle.glass.specs.Greys.{gray_z}
use Rattle.bench.proofs.display.paint_grays.Given as goal

abbrev pub invariant-loop-i : goal.invariant-loop-i
invariant-loop-i l = Painted l.i (λ k. gray_z (get_or l.states k (pos 0)) l.swing) l.initial.pixels l.pixels

abbrev pub decreases-loop-i : goal.decreases-loop-i
decreases-loop-i l = l.i-end - l.i
