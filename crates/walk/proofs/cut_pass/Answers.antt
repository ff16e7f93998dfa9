-- `walk::cut_pass` meets its contract. Assumes nothing.
use mathlib.Core.Path.{sym}
use mathlib.Core.List.{◌++◌}
use Rattle.waveform.specs.Phases.{driven, phases_in}
use Rattle.waveform.specs.Walks.{cut_step}
use Rattle.waveform_laws.proofs.Steps.{stopped_stays}
use Rattle.walk.proofs.Made.{then_on}
use Rattle.walk.proofs.cut_pass.Goals as goal

pub returns-then-progress : goal.returns-then-progress
returns-then-progress c =
    let s = c.args in
    sym (stopped_stays s.driving s.until s.progress (phases_in s.first.step.phase s.second.step.phase s.third.step.phase s.fourth.step.phase) c.if-progress.true)

pub returns : goal.returns
returns c =
    let three = c in
    let two = three in
    let one = two in
    let s = one.args in
    let step = cut_step s.driving s.until in
    let a = driven s.first.step.phase in
    let b = driven s.second.step.phase in
    let e = driven s.third.step.phase in
    then_on step s.progress ((a ++ b) ++ e) (driven s.fourth.step.phase)
    (then_on step s.progress (a ++ b) e (then_on step s.progress a b one.cut_phase-one.ensures two.cut_phase-two.ensures) three.cut_phase-three.ensures)
    c.cut_phase.ensures
