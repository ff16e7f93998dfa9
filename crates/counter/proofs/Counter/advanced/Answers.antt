-- `advanced`: a step in x stays within a place of sixteen bits.
use mathlib.Core.Path.{◌∙◌}
use Prim.Native.Nat.{◌/◌}
use native.Mathlib.Omega.{arith}
use Rattle.counter.proofs.Steps.{step_below}
use Rattle.counter.proofs.Counter.advanced.Goals as goal

pub overflow_mul-x : goal.overflow_mul-x
overflow_mul-x c =
    let m = step_below (c.args.self.x / 8) (c.args.window.x_end / 8) 8191 c.in-Some-step.column (omega arith) (omega arith) c.x_increments.result c.in-Some-step.ensures in
    omega arith

pub overflow_mul-result : goal.overflow_mul-result
overflow_mul-result c =
    let m = step_below (c.args.self.x / 8) (c.args.window.x_end / 8) 8191 c.in-Some-step-2.column (omega arith) (omega arith) c.x_increments.result c.in-Some-step-2.ensures in
    omega arith
