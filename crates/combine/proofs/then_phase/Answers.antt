-- `combine::then_phase` meets its contract. Assumes nothing.
use mathlib.Core.Path.{ap, ◌∙◌}
use Rattle.waveform.specs.Walks.{whole_step}
use Rattle.combine.proofs.then_phase.Goals as goal

pub returns : goal.returns
returns c =
    let call = c in
    let a = call.args in
    c.push.ensures ∙ ap (whole_step a.driving a.transfer) call.phase_of-phase.ensures
