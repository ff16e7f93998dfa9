-- `glass_tables::greys::firsts` meets its contract: after i turns the first i greys are filled. Assumes nothing.
use mathlib.Core.Path.{ap, ◌∙◌}
use Prim.Native.Nat.{◌*◌, ◌^◌}
use native.Mathlib.Omega.{arith}
use lib.IntN.{ℤ, pos}
use Rattle.numbers.specs.Lists.{tab}
use Rattle.numbers.proofs.Lin.{back}
use Rattle.numbers.proofs.Painted.{painted_none, painted_more, painted_all}
use Rattle.glass.specs.Greys.{gray_z}
use Rattle.glass_tables.specs.Greys.{firsts_of}
use Rattle.glass_tables.proofs.greys.firsts.Goals as goal

pub loop-i-init : goal.loop-i-init
loop-i-init c = (painted_none _ _, omega arith)

pub bounds-firsts-i : goal.bounds-firsts-i
bounds-firsts-i c = c.loop-i-test.true

pub overflow_step-i : goal.overflow_step-i
overflow_step-i c = record { fits = omega (arith, c.loop-i-test.true) }

pub loop-i-smaller : goal.loop-i-smaller
loop-i-smaller c = omega (arith, c.loop-i-test.true)

pub loop-i-preserved : goal.loop-i-preserved
loop-i-preserved c =
    let m = c in
    (painted_more m.loop-i.invariant.0 c.loop-i-test.true c.first.ensures, omega (arith, c.loop-i-test.true))

pub returns : goal.returns
unfolding firsts_of
returns c =
    let m = c in
    let s = m in
    painted_all m.loop-i.invariant.0 c.loop-i-test.false
    ∙ ap (λ (z : ℤ). tab 512 (λ step. gray_z (pos (step * 2 ^ s.args.shift)) z)) (back s.ranges.swing)
