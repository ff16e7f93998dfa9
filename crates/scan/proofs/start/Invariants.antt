use Prim.Native.Nat.{◌≤◌, ◌-◌, ◌*◌, ◌+◌}
use Rattle.numbers.proofs.Painted.{Painted}
use Rattle.scan.specs.Luts.{lut_of}
use Rattle.scan.proofs.start.Given as goal

abbrev pub invariant-loop-x : goal.invariant-loop-x
invariant-loop-x l =
    Painted (l.y * l.width + l.x) (lut_of l.gates l.red l.black_white l.geometry l.scan) l.initial.luts l.luts × (l.x ≤ l.width)

abbrev pub decreases-loop-x : goal.decreases-loop-x
decreases-loop-x l = l.width - l.x

abbrev pub invariant-loop-y : goal.invariant-loop-y
invariant-loop-y l =
    Painted (l.y * l.width) (lut_of l.gates l.red l.black_white l.geometry l.scan) l.initial.luts l.luts × (l.y ≤ l.height)

abbrev pub decreases-loop-y : goal.decreases-loop-y
decreases-loop-y l = l.height - l.y
