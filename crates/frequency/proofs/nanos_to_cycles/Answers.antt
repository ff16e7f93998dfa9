-- `frequency::nanos_to_cycles` meets its contract.
use Prim.Native.Nat.{◌*◌, ◌%◌, ◌≤◌}
use native.Mathlib.Omega.{arith}
use Rattle.frequency.proofs.Apart.{up_rest, up_met}
use Rattle.frequency.proofs.nanos_to_cycles.Goals.{After-saturating_mul-whole}
use Rattle.frequency.proofs.nanos_to_cycles.Goals as goal

rest : (c : After-saturating_mul-whole) → c.args.ns % 1000000000 * c.args.frequency ≤ 999999999 * 4294967295
rest c = up_rest c.args.frequency c.args.ns c.ranges.frequency.fits

pub overflow_mul-rest : goal.overflow_mul-rest
overflow_mul-rest c = record { fits = omega (arith, rest c) }

pub overflow_add-rest : goal.overflow_add-rest
overflow_add-rest c = record { fits = omega (arith, rest c) }

pub returns : goal.returns
returns c =
    up_met c.args.frequency c.args.ns _ _ c.saturating_mul-whole.ensures c.saturating_add.ensures
