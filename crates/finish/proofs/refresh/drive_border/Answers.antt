-- `finish::refresh::drive_border` meets its contract. Assumes nothing.
use Rattle.std.specs.Prelude.{Option}
use mathlib.Core.Path.{sym, ap, ◌∙◌}
use Rattle.numbers.proofs.Lin.{got, field_back}
use Rattle.glass.specs.Transfers.{apply_t}
use Rattle.panel.specs.Finish.{border_by, with_border}
use Rattle.finish.specs.Refresh.{transfer_in}
use Rattle.finish.proofs.Drives.{border_takes}
use Rattle.finish.proofs.refresh.drive_border.Goals as goal
use Rattle.waveform.specs.declared.Drive.{Drive}

pub transfer-transfer-requires : goal.transfer-transfer-requires
transfer-transfer-requires c =
    let call = c in
    (call.requires.walkable _ (border_takes _ _ (sym call.border_drive-drives.ensures ∙ c.in-Some.is)), call.requires.some)

pub returns-in-Some : goal.returns-in-Some
returns-in-Some c =
    let told = c in
    let call = told in
    let a = call.args in
    let p = a.panel in
    let border =
    got c.apply-state.type_inv (c.apply-state.ensures ∙ ap (apply_t c.transfer-transfer.result) (field_back p.border c.struct_told-1.given.1.0.1) ∙ c.transfer-transfer.ensures.alike p.border)
    ∙ ap (λ (b : Option Drive). border_by (transfer_in a.refresh) b p.border) (sym told.in-Some.is ∙ call.border_drive-drives.ensures) in
    λ i. record { swing = p.swing; border = border i; image = p.image }

pub returns-in-None : goal.returns-in-None
returns-in-None c =
    let call = c in
    let a = call.args in
    ap (λ (b : Option Drive). with_border a.panel (border_by (transfer_in a.refresh) b a.panel.border)) (sym c.in-None.is ∙ call.border_drive-drives.ensures)
