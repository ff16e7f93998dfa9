-- `walk::phases::step_of` meets its contract. Assumes nothing.
use mathlib.Core.Path.{ap, ◌∙◌}
use lib.IntN.{ℤ}
use Rattle.numbers.proofs.Lin.{got, field_back}
use Rattle.waveform.specs.Walks.{saturated_drive, phase_step}
use Rattle.waveform_laws.proofs.Stepped.{drive_none, drive_some}
use Rattle.walk.proofs.phases.step_of.Goals as goal

pub returns-then-phase-eq0 : goal.returns-then-phase-eq0
returns-then-phase-eq0 c =
    let call = c in
    let d = call.args.driving in
    drive_none d call.phase_of-phase.result c.if-phase-eq0.true ∙ ap (phase_step d) call.phase_of-phase.ensures

pub returns : goal.returns
returns c =
    let test = c in
    let call = test in
    let d = call.args.driving in
    let p = call.phase_of-phase.result in
    let v = field_back p.millivolts c.struct_told-1.given.1.1.0.1 in
    (λ i. record { phase = p; drive = got c.drive_of-drive.type_inv (c.drive_of-drive.ensures ∙ ap (λ (z : ℤ). saturated_drive d.positive_drives_black z p.frames p.frame_ns) v) i })
    ∙ drive_some d p test.if-phase-eq0.false
    ∙ ap (phase_step d) call.phase_of-phase.ensures
