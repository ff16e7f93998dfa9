-- `can_finish` meets its contract.
use mathlib.Core.Path.{ap, ◌∙◌}
use mathlib.Core.Bool.{◌&&◌}
use lib.Dec.{eqb}
use lib.IntN.{ℤ}
use Rattle.numbers.proofs.Lin.{back}
use Rattle.bench.specs.Asked.{grayable, finishable}
use Rattle.bench.proofs.asked.can_finish.Goals as goal

pub returns : goal.returns
unfolding finishable
returns c =
    let s = c in
    let a = s.args in
    let gray = c.can_gray.ensures ∙ ap (λ (z : ℤ). grayable z a.states a.pixels) (back s.ranges.swing) in
    λ i. ((c.last.ensures i && gray i) && eqb a.luts a.states) && c.can_count.ensures i
