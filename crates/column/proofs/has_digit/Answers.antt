-- `column::has_digit` meets its contract.
use Rattle.std.proofs.Common.{rules, arith}
use Rattle.column.proofs.Symbols.{none_far}
use Rattle.column.proofs.has_digit.Goals as goal

pub returns : goal.returns
returns c = record { is = none_far c.args.n c.args.place (omega arith) (omega arith); near = search rules }
