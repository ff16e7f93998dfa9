-- `walk::phases::push` meets its contract. Assumes nothing.
use mathlib.Core.Path.{ap, ◌∙◌}
use lib.IntN.{ℤ}
use Rattle.glass.specs.Transfers.{then_t, shift_t}
use Rattle.numbers.proofs.Lin.{got, field_back}
use Rattle.waveform.specs.Walks.{saturated_drive, pushed}
use Rattle.walk.proofs.phases.push.Goals as goal

pub returns : goal.returns
unfolding pushed
returns c = let s = c in
    let t = c.struct_told-1.given in
    let u = c.struct_told-2-1.given in
    let d = c.drive_of-drive in
    let p = s.args.phase in
    let v = field_back p.millivolts t.1.1.0.1 in
    c.then.ensures
    ∙ ap (then_t s.args.transfer)
    (c.shift-shift.ensures
    ∙ (λ i. shift_t (got d.type_inv (d.ensures ∙ ap (λ (z : ℤ). saturated_drive s.args.driving.positive_drives_black z s.args.run p.frame_ns) v) i) (field_back s.args.driving.swing u.1.1.0.1 i)))
