-- `panel_start::fill_states` meets its contract: after i turns the first i states are filled. Assumes nothing.
use mathlib.Core.Path.{refl, ap, ◌∙◌}
use native.Mathlib.Omega.{arith}
use lib.IntN.{ℤ}
use lib.ListN.{length}
use Rattle.numbers.specs.Lists.{tab}
use Rattle.numbers.proofs.Lin.{back}
use Rattle.numbers.proofs.Painted.{painted_none, painted_more, painted_all}
use Rattle.panel_start.proofs.fill_states.Goals as goal

pub loop-i-init : goal.loop-i-init
loop-i-init c = (painted_none _ _, refl)

pub offset_bounds-states-i : goal.offset_bounds-states-i
offset_bounds-states-i c = omega arith

pub bounds-states-i : goal.bounds-states-i
bounds-states-i c = omega arith

pub overflow_step-i : goal.overflow_step-i
overflow_step-i c = omega arith

pub loop-i-smaller : goal.loop-i-smaller
loop-i-smaller c = omega arith

pub loop-i-preserved : goal.loop-i-preserved
loop-i-preserved c = (painted_more c.loop-i.invariant.0 (omega arith) refl, c.loop-i.invariant.1)

pub shape_of-states : goal.shape_of-states
shape_of-states c = c.loop-i.invariant.0.long

pub returns : goal.returns
returns c =
    let s = c in
    painted_all c.loop-i.invariant.0 (omega arith) ∙ ap (λ (z : ℤ). tab (length s.args.states.now) (λ _. z)) (back s.ranges.state)
