-- `glass::share` meets its contract. Assumes nothing.
use native.Mathlib.Omega.{arith}
use Rattle.numbers.proofs.Quot.{level_split, level_le, rest_le}
use Rattle.glass.proofs.share.Goals as goal

pub overflow_mul-result : goal.overflow_mul-result
overflow_mul-result c = record { fits = omega (arith, level_split c.args.swing c.args.gray, level_le c.args.swing c.args.gray c.requires) }

pub overflow_mul-result-2 : goal.overflow_mul-result-2
overflow_mul-result-2 c = record { fits = omega (arith, rest_le c.args.swing c.args.gray c.requires) }

pub overflow_add-result : goal.overflow_add-result
overflow_add-result c = record { fits = omega (arith, level_split c.args.swing c.args.gray, level_le c.args.swing c.args.gray c.requires) }

pub returns : goal.returns
returns c = level_split c.args.swing c.args.gray
