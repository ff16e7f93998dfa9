use Rattle.std.proofs.Common.{◌≡◌, take}
use Rattle.column.specs.Columns.{gathered}
use Rattle.column.proofs.Columns.put_text.Given as goal

abbrev pub invariant-loop-byte : goal.invariant-loop-byte
invariant-loop-byte g l = l.self ≡ gathered g.row.ROOM l.initial.self (take l.byte-index l.text)
