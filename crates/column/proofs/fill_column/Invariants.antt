use Rattle.std.proofs.Common.{◌-◌}
use Rattle.numbers.proofs.Painted.{Painted}
use Rattle.column.specs.Columns.{symbol_at}
use Rattle.column.proofs.fill_column.Given as goal

abbrev pub invariant-loop-i : goal.invariant-loop-i
invariant-loop-i l = Painted l.i (λ i. symbol_at l.negative l.n (l.width - 1 - i)) l.initial.out l.out
