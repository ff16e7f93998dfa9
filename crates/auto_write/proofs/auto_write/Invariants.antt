use Prim.Native.Nat.{◌+◌, ◌*◌, ◌≤◌}
use Rattle.numbers.proofs.Painted.{Painted}
use Rattle.auto_write.specs.Auto.{auto_byte}
use Rattle.auto_write.proofs.auto_write.Given as goal

abbrev pub invariant-loop-column : goal.invariant-loop-column
invariant-loop-column l = Painted (l.row * 120 + l.column) (auto_byte l.parameter) l.initial.plane l.plane × (l.column ≤ 120)

abbrev pub invariant-loop-row : goal.invariant-loop-row
invariant-loop-row l = Painted (l.row * 120) (auto_byte l.parameter) l.initial.plane l.plane × (l.row ≤ l.rows)
