-- `counts::join` meets its contract: after g turns the first g counts are sums of the tables'. Assumes nothing.
use mathlib.Core.Path.{refl, ap, ◌∙◌}
use Prim.Native.Nat.{ℕ}
use native.Mathlib.Omega.{arith}
use Rattle.numbers.specs.Lists.{tab}
use Rattle.numbers.proofs.Painted.{painted_none, painted_more, painted_all}
use Rattle.counts.specs.Tables.{sum_at, joined}
use Rattle.counts.proofs.join.Goals as goal

pub loop-g-init : goal.loop-g-init
loop-g-init c = painted_none _ _

pub offset_bounds-a-g : goal.offset_bounds-a-g
offset_bounds-a-g c = omega arith

pub bounds-a-g : goal.bounds-a-g
bounds-a-g c = omega arith

pub offset_bounds-b-g : goal.offset_bounds-b-g
offset_bounds-b-g c = omega arith

pub bounds-b-g : goal.bounds-b-g
bounds-b-g c = omega arith

pub overflow_add-counts : goal.overflow_add-counts
overflow_add-counts c =
    let l = c.before.before.before.before in
    omega (arith, l.requires.below l.loop-g.g (omega arith))

pub offset_bounds-c-g : goal.offset_bounds-c-g
offset_bounds-c-g c = omega arith

pub bounds-c-g : goal.bounds-c-g
bounds-c-g c = omega arith

pub overflow_add-counts-in-loop-g : goal.overflow_add-counts-in-loop-g
overflow_add-counts-in-loop-g c =
    let l = c.before.before.before.before.before in
    omega (arith, l.requires.below l.loop-g.g (omega arith))

pub offset_bounds-d-g : goal.offset_bounds-d-g
offset_bounds-d-g c = omega arith

pub bounds-d-g : goal.bounds-d-g
bounds-d-g c = omega arith

pub overflow_add-counts-in-loop-g-2 : goal.overflow_add-counts-in-loop-g-2
overflow_add-counts-in-loop-g-2 c =
    let l = c.before.before.before.before.before.before in
    omega (arith, l.requires.below l.loop-g.g (omega arith))

pub offset_bounds-counts-g : goal.offset_bounds-counts-g
offset_bounds-counts-g c = omega arith

pub bounds-counts-g : goal.bounds-counts-g
bounds-counts-g c = omega arith

pub overflow_step-g : goal.overflow_step-g
overflow_step-g c = omega arith

pub loop-g-smaller : goal.loop-g-smaller
loop-g-smaller c = omega arith

pub loop-g-preserved : goal.loop-g-preserved
loop-g-preserved c = painted_more c.loop-g.invariant (omega arith) refl

pub returns : goal.returns
unfolding joined
returns c =
    let s = c.before.before in
    painted_all c.loop-g.invariant (omega arith)
    ∙ ap (λ (n : ℕ). tab n (sum_at s.args.a.now s.args.b.now s.args.c.now s.args.d.now)) c.told-counts
