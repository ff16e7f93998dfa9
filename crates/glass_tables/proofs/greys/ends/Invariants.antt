use Prim.Native.Nat.{◌-◌, ◌≤◌}
use lib.IntN.{nat_abs}
use Rattle.numbers.proofs.Painted.{Painted}
use Rattle.glass_tables.specs.Greys.{grey_end}
use Rattle.glass_tables.proofs.greys.ends.Given as goal

abbrev pub invariant-loop-i : goal.invariant-loop-i
invariant-loop-i l = Painted l.i (grey_end (nat_abs l.swing)) l.initial.ends l.ends × (l.i ≤ 256)

abbrev pub decreases-loop-i : goal.decreases-loop-i
decreases-loop-i l = 256 - l.i
