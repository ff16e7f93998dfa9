use Prim.Native.Nat.{◌≤◌, ◌-◌}
use Rattle.numbers.proofs.Scattered.{Scattered}
use Rattle.gates.specs.Gates.{physical_row}
use Rattle.gates.proofs.gate_of_row.Given as goal

abbrev pub invariant-loop-gate : goal.invariant-loop-gate
invariant-loop-gate l = Scattered l.gate (physical_row l.geometry) l.initial.gates l.gates × (l.gate ≤ l.height)

abbrev pub decreases-loop-gate : goal.decreases-loop-gate
decreases-loop-gate l = l.height - l.gate
