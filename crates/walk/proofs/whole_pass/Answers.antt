-- `walk::whole_pass` meets its contract. Assumes nothing.
use mathlib.Core.Path.{ap, ◌∙◌}
use Rattle.waveform.specs.Walks.{drive_stepped}
use Rattle.walk.proofs.whole_pass.Goals as goal

pub returns : goal.returns
returns c =
    let a = c.args in
    c.whole_step.ensures
    ∙ ap (drive_stepped a.driving a.fourth)
    (c.whole_step-three.ensures
    ∙ ap (drive_stepped a.driving a.third) (c.whole_step-two.ensures ∙ ap (drive_stepped a.driving a.second) c.whole_step-one.ensures))
