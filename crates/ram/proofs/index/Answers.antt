-- `index`: each answer under the tests that lead to it.
use borrow.Author.Tests.{lt-ltb, le-ltb}
use Rattle.ram.specs.Plane.{index_of}
use Rattle.ram.proofs.index.Goals as goal

pub returns-then-row : goal.returns-then-row
unfolding index_of
returns-then-row c = simp (lt-ltb _ _ c.if-column-lt-ROW_BYTES.true, lt-ltb _ _ c.if-row.true)

pub returns-else-row : goal.returns-else-row
unfolding index_of
returns-else-row c = simp (lt-ltb _ _ c.if-column-lt-ROW_BYTES.true, le-ltb _ _ c.if-row.false)

pub returns-else-column-lt-ROW_BYTES : goal.returns-else-column-lt-ROW_BYTES
unfolding index_of
returns-else-column-lt-ROW_BYTES c = simp (le-ltb _ _ c.if-column-lt-ROW_BYTES.false)
