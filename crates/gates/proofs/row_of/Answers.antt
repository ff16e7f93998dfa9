-- `gates::row_of` meets its contract: each branch is a row of the table.
use mathlib.Core.Path.{◌≡◌}
use mathlib.Core.Bool.{true, false}
use Prim.Native.Nat.{◌%◌}
use native.Mathlib.Omega.{arith}
use lib.Dec.{eqb}
use borrow.Author.Tests.{eq-eqb, ne_eqb}
use Rattle.gates.specs.Gates.{row_of}
use Rattle.gates.proofs.Rows.{exchanged}
use Rattle.gates.proofs.row_of.Goals as goal

pub returns-then-even : goal.returns-then-even
unfolding row_of
returns-then-even c =
    let even : eqb (c.args.gate % 2) 0 ≡ true = eq-eqb (c.args.gate % 2) 0 c.if-even.true in
    rw (c.if-scan.true, c.if-scan-2.true, even) (omega arith)

pub returns-then-scan-2 : goal.returns-then-scan-2
unfolding row_of
returns-then-scan-2 c =
    let odd : eqb (c.args.gate % 2) 0 ≡ false = ne_eqb (c.args.gate % 2) 0 c.if-even.false in
    rw (c.if-scan.true, c.if-scan-2.true, odd)

pub returns-then-even-2 : goal.returns-then-even-2
unfolding row_of
returns-then-even-2 c =
    let even : eqb (c.args.gate % 2) 0 ≡ true = eq-eqb (c.args.gate % 2) 0 c.if-even-2.true in
    rw (c.if-scan.true, c.if-scan-2.false, even)

pub returns-then-scan : goal.returns-then-scan
unfolding row_of
returns-then-scan c =
    let odd : eqb (c.args.gate % 2) 0 ≡ false = ne_eqb (c.args.gate % 2) 0 c.if-even-2.false in
    rw (c.if-scan.true, c.if-scan-2.false, odd) (omega arith)

pub returns-then-scan-3 : goal.returns-then-scan-3
unfolding row_of
returns-then-scan-3 c = rw (c.if-scan.false, c.if-scan-3.true) (exchanged c.args.gate)

pub returns : goal.returns
unfolding row_of
returns c = rw (c.if-scan.false, c.if-scan-3.false)
