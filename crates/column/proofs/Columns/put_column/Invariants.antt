use Rattle.std.proofs.Common.{◌≡◌, take}
use Rattle.column.specs.Columns.{column_of, gathered}
use Rattle.column.proofs.Columns.put_column.Given as goal

abbrev pub invariant-loop-i : goal.invariant-loop-i
invariant-loop-i g l = l.self ≡ gathered g.row.ROOM l.initial.self (take l.i (column_of l.width l.negative l.n))
