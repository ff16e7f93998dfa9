-- `glass::Transfer::apply` meets its contract. Assumes nothing.
use Rattle.numbers.proofs.Lin.{back, field_back}
use Rattle.numbers.proofs.Hold.{summed, clamped}
use Rattle.glass.proofs.Transfer.apply.Goals as goal

pub returns : goal.returns
returns c =
    let s = c.before.before.before.before.before in
    let t = s.args.self in
    let g = c.struct_told-1.given in
    let sum = c.saturating_add_i64-moved in
    clamped c.clamp_i64.type_inv c.clamp_i64.ensures
    (summed sum.type_inv sum.ensures (back s.ranges.state) (field_back t.add g.0.1))
    (field_back t.lo g.1.0.1) (field_back t.hi g.1.1.0.1)
