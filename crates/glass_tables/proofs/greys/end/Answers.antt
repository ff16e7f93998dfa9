-- `glass_tables::greys::end` meets its contract. Assumes nothing.
use Prim.Native.Nat.{◌+◌, ◌*◌}
use native.Mathlib.Omega.{arith}
use Rattle.glass_tables.specs.Greys.{grey_end}
use Rattle.glass_tables.proofs.Found.{end_is, whole_le, rest_le}
use Rattle.glass_tables.proofs.greys.end.Goals as goal

pub overflow_mul-result : goal.overflow_mul-result
overflow_mul-result c = record { fits = omega (arith, whole_le c.args.swing (2 * c.args.gray + 1) c.requires.1 (omega arith)) }

pub overflow_mul-result-2 : goal.overflow_mul-result-2
overflow_mul-result-2 c = record { fits = omega (arith, rest_le c.args.swing (2 * c.args.gray + 1) (omega arith)) }

pub overflow_add-result : goal.overflow_add-result
overflow_add-result c = record { fits = omega (arith, rest_le c.args.swing (2 * c.args.gray + 1) (omega arith)) }

pub overflow_add-result-2 : goal.overflow_add-result-2
overflow_add-result-2 c =
    let m = 2 * c.args.gray + 1 in
    record { fits = omega (arith, rest_le c.args.swing m (omega arith), whole_le c.args.swing m c.requires.1 (omega arith)) }

pub returns : goal.returns
unfolding grey_end
returns c = end_is c.args.swing (2 * c.args.gray + 1)
