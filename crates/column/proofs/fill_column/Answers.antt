-- `column::fill_column` meets its contract: the loop paints the column from the left.
use Rattle.std.proofs.Common.{ap, ◌∙◌, arith}
use Rattle.numbers.proofs.Painted.{painted_none, painted_more, painted_all}
use Rattle.column.specs.Columns.{column_of}
use Rattle.column.proofs.fill_column.Goals as goal

pub loop-i-init : goal.loop-i-init
loop-i-init c = painted_none _ _

pub loop-i-preserved : goal.loop-i-preserved
loop-i-preserved c = painted_more c.loop-i.invariant (omega arith) c.symbol.ensures

pub shape_of-out : goal.shape_of-out
shape_of-out c = c.loop-i.invariant.long

pub returns : goal.returns
unfolding column_of
returns c = painted_all c.loop-i.invariant (omega arith)
