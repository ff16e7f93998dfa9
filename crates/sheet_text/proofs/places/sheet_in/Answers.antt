-- `sheet_text::places::sheet_in` meets its contract.
use Rattle.numbers.proofs.Lin.{got}
use Rattle.sheet_text.specs.Reading.{sheet_in}
use Rattle.sheet_text.proofs.places.sheet_in.Goals as goal

pub returns : goal.returns
unfolding sheet_in
returns c =
    let vsl = c in
    let vsh2 = vsl in
    let vsh1 = vsh2 in
    let gate = vsh1 in
    λ i. record {
      groups = gate.groups_in-groups.ensures i;
      gate = gate.low_byte_at-gate.ensures i;
      vsh1 = got vsh1.whole_at-vsh1.type_inv vsh1.whole_at-vsh1.ensures i;
      vsh2 = got vsh2.whole_at-vsh2.type_inv vsh2.whole_at-vsh2.ensures i;
      vsl = got vsl.whole_at-vsl.type_inv vsl.whole_at-vsl.ensures i;
      vcom = got c.whole_at-vcom.type_inv c.whole_at-vcom.ensures i;
    }
