-- `scan::source_of` meets its contract: a column of the glass lies below its width.
use Rattle.scan.specs.Luts.{source_of}
use Rattle.scan.proofs.source_of.Goals as goal

pub returns-then-geometry : goal.returns-then-geometry
unfolding source_of
returns-then-geometry c = rw c.if-geometry.true

pub returns : goal.returns
unfolding source_of
returns c = rw c.if-geometry.false
