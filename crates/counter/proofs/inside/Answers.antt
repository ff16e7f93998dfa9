-- `inside`: the lesser and the greater of the two ends, in either order.
use mathlib.Core.Path.{◌≡◌}
use Prim.Native.Nat.{min, max}
use native.Mathlib.Omega.{arith}
use Rattle.counter.specs.Counter.{between}
use Rattle.counter.proofs.inside.Goals as goal

pub returns-then-a-b : goal.returns-then-a-b
unfolding between
returns-then-a-b c =
    let l : min c.args.a c.args.b ≡ c.args.a = omega arith in
    let g : max c.args.a c.args.b ≡ c.args.b = omega arith in
    rw (l, g)

pub returns-else-a-b : goal.returns-else-a-b
unfolding between
returns-else-a-b c =
    let l : min c.args.a c.args.b ≡ c.args.b = omega arith in
    let g : max c.args.a c.args.b ≡ c.args.a = omega arith in
    rw (l, g)
