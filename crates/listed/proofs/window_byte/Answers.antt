-- `window_byte`: a low byte, the start's high byte, the end's.
use Prim.Native.Nat.{◌%◌}
use borrow.Author.Tests.{eq-eqb, ne_eqb, lt-ltb, le-ltb}
use native.Mathlib.Omega.{arith}
use Rattle.listed.proofs.window_byte.Goals as goal

pub returns-then-index-eq0 : goal.returns-then-index-eq0
returns-then-index-eq0 c = rw (eq-eqb (c.args.index % 2) 0 c.if-index-eq0.true)

pub returns-then-index-lt2 : goal.returns-then-index-lt2
returns-then-index-lt2 c =
    let start = c.args in
    rw (ne_eqb (start.index % 2) 0 c.if-index-eq0.false, lt-ltb start.index 2 (omega arith), c.two_bits.ensures)

pub returns : goal.returns
returns c =
    let start = c.args in
    rw (ne_eqb (start.index % 2) 0 c.if-index-eq0.false, le-ltb start.index 2 (omega arith), c.two_bits-2.ensures)
