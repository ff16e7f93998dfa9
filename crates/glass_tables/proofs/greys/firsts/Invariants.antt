use Prim.Native.Nat.{◌*◌, ◌-◌, ◌^◌, ◌≤◌}
use lib.IntN.{pos}
use Rattle.numbers.proofs.Painted.{Painted}
use Rattle.glass.specs.Greys.{gray_z}
use Rattle.glass_tables.proofs.greys.firsts.Given as goal

abbrev pub invariant-loop-i : goal.invariant-loop-i
invariant-loop-i l =
    Painted l.i (λ step. gray_z (pos (step * 2 ^ l.shift)) l.swing) l.initial.firsts l.firsts × (l.i ≤ 512)

abbrev pub decreases-loop-i : goal.decreases-loop-i
decreases-loop-i l = 512 - l.i
