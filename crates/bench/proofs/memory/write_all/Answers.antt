-- `write_all` meets its contract: after i turns the first i bytes have run.
use mathlib.Core.Path.{◌≡◌, ap, ◌∙◌}
use Prim.Native.Nat.{ℕ}
use native.Mathlib.Omega.{arith}
use lib.ListN.{length}
use Rattle.bench.specs.Runs.{run, ran_over}
use Rattle.bench.proofs.Runs.{ran_none, ran_more}
use Rattle.bench.proofs.memory.write_all.Goals as goal

pub loop-i-init : goal.loop-i-init
loop-i-init c = let a = c.args in (ran_none a.window a.entry a.bytes.now (run a.counter a.plane.now), (omega arith, omega arith))

pub bounds-bytes-i : goal.bounds-bytes-i
bounds-bytes-i c = omega arith

pub write-requires : goal.write-requires
write-requires c = tt

pub advanced-at-requires : goal.advanced-at-requires
advanced-at-requires c = tt

pub overflow_step-i : goal.overflow_step-i
overflow_step-i c = omega arith

pub loop-i-smaller : goal.loop-i-smaller
loop-i-smaller c = omega arith

pub loop-i-preserved : goal.loop-i-preserved
loop-i-preserved c =
    let m = c in
    let a = m.args in
    (ran_more a.window a.entry a.bytes.now m.loop-i.i (run a.counter a.plane.now) m.loop-i.invariant.0 c.advanced-at.ensures c.write.ensures.plane_after, (omega arith, omega arith))

pub shape_of-plane : goal.shape_of-plane
shape_of-plane c = c.loop-i.invariant.1.0

pub returns : goal.returns
returns c =
    let a = c.args in
    let n : c.loop-i.i ≡ length a.bytes.now = omega arith in
    c.loop-i.invariant.0 ∙ ap (λ (k : ℕ). ran_over a.window a.entry a.bytes.now k (run a.counter a.plane.now)) n
