-- `drive_sheet::read` meets its contract.
use mathlib.Core.Path.{ap, ◌∙◌}
use lib.ListN.{get_or}
use Rattle.waveform.specs.declared.Levels.{Levels}
use Rattle.numbers.proofs.Lin.{got, field_back}
use Rattle.drive_sheet.specs.Bytes.{sheet_of}
use Rattle.drive_sheet.proofs.read.Goals as goal

pub returns : goal.returns
unfolding sheet_of
returns c =
    let v = c in
    let l = v in
    let g = l in
    λ i. record {
      groups = g.groups_of-groups.ensures i;
      gate = get_or g.args.setting.now 105 0;
      vsh1 = (field_back l.from_setting-levels.result.vsh1 c.struct_told-1.given.0.1 ∙ ap (λ (k : Levels). k.vsh1) l.from_setting-levels.ensures) i;
      vsh2 = (field_back l.from_setting-levels.result.vsh2 c.struct_told-1.given.1.0.1 ∙ ap (λ (k : Levels). k.vsh2) l.from_setting-levels.ensures) i;
      vsl = (field_back l.from_setting-levels.result.vsl c.struct_told-1.given.1.1.0.1 ∙ ap (λ (k : Levels). k.vsl) l.from_setting-levels.ensures) i;
      vcom = got v.vcom_of-vcom.type_inv v.vcom_of-vcom.ensures i;
    }
