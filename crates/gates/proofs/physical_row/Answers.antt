-- `gates::physical_row` meets its contract: a native row is below the height, so that it can be counted from the bottom.
use native.Mathlib.Omega.{arith}
use Rattle.gates.specs.Gates.{physical_row}
use Rattle.gates.proofs.Rows.{native_lt}
use Rattle.gates.proofs.physical_row.Goals as goal

pub overflow_sub-result-then-geometry : goal.overflow_sub-result-then-geometry
overflow_sub-result-then-geometry c =
    let s = c in
    omega (arith, c.native_row-row.ensures, native_lt s.args.gate s.args.geometry.native_scan s.args.geometry.height s.requires)

pub returns-then-geometry : goal.returns-then-geometry
unfolding physical_row
returns-then-geometry c = rw (c.if-geometry.true, ← c.native_row-row.ensures)

pub returns : goal.returns
unfolding physical_row
returns c = rw (c.if-geometry.false, ← c.native_row-row.ensures)
