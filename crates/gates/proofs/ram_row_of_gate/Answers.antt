-- `gates::ram_row_of_gate` meets its contract: the three tests are the definition's.
use borrow.Author.Tests.{lt-ltb, le-ltb}
use native.Mathlib.Omega.{arith}
use Rattle.gates.specs.Gates.{row_of_gate}
use Rattle.gates.proofs.ram_row_of_gate.Goals as goal

pub returns-then-lines-gate : goal.returns-then-lines-gate
unfolding row_of_gate
returns-then-lines-gate c = let a = c.args in rw (le-ltb a.gate a.lines (omega arith))

pub returns-then-row-lt-RAM_GATES : goal.returns-then-row-lt-RAM_GATES
unfolding row_of_gate
returns-then-row-lt-RAM_GATES c =
    let a = c.args in
    let row = c.row_of-row.result in
    rw (lt-ltb a.gate a.lines (omega arith), ← c.row_of-row.ensures, lt-ltb row a.lines (omega arith), lt-ltb row 680 (omega arith))

pub returns-else-row-lt-RAM_GATES : goal.returns-else-row-lt-RAM_GATES
unfolding row_of_gate
returns-else-row-lt-RAM_GATES c =
    let a = c.args in
    let row = c.row_of-row.result in
    rw (lt-ltb a.gate a.lines (omega arith), ← c.row_of-row.ensures, lt-ltb row a.lines (omega arith), le-ltb row 680 (omega arith))

pub returns-else-row-lines : goal.returns-else-row-lines
unfolding row_of_gate
returns-else-row-lines c =
    let a = c.args in
    let row = c.row_of-row.result in
    rw (lt-ltb a.gate a.lines (omega arith), ← c.row_of-row.ensures, le-ltb row a.lines (omega arith))
