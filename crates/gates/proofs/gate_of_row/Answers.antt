-- `gates::gate_of_row` meets its contract: after each turn one gate more is stored at its row.
use mathlib.Core.Path.{◌∙◌}
use native.Mathlib.Omega.{arith}
use Rattle.numbers.proofs.Scattered.{scattered_none, scattered_more, scattered_past, scattered_all}
use Rattle.gates.proofs.Stored.{stored_is}
use Rattle.gates.proofs.gate_of_row.Goals as goal
use Rattle.gates.proofs.gate_of_row.Goals.{then-row-gates, else-row-gates}

pub loop-gate-init : goal.loop-gate-init
loop-gate-init c = (scattered_none _ _, omega arith)

pub physical_row-row-requires : goal.physical_row-row-requires
physical_row-row-requires c = omega arith

pub bounds-gates-row : goal.bounds-gates-row
bounds-gates-row c = omega arith

pub overflow_step-gate : goal.overflow_step-gate
overflow_step-gate c = omega arith

pub loop-gate-smaller : goal.loop-gate-smaller
loop-gate-smaller c = omega arith

pub loop-gate-preserved : goal.loop-gate-preserved
loop-gate-preserved c =
    let stored = c.loop-gate.invariant.0 in
    let row = c.physical_row-row.ensures in
    (elim c.if-row-gates.branch [ then-row-gates w ↦ rw w.gates-is (scattered_more stored row) | else-row-gates w ↦ rw w.gates-is (scattered_past stored row (omega arith)) ], omega arith)

pub shape_of-gates : goal.shape_of-gates
shape_of-gates c = c.loop-gate.invariant.0.long

pub returns : goal.returns
returns c =
    let s = c in
    scattered_all c.loop-gate.invariant.0 (omega arith) ∙ stored_is s.args.geometry s.args.geometry.height _
