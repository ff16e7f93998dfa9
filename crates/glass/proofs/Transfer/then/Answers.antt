-- `glass::Transfer::then` meets its contract. Assumes nothing.
use Rattle.numbers.proofs.Lin.{field_back}
use Rattle.numbers.proofs.Hold.{summed, clamped}
use Rattle.glass.proofs.Transfer.then.Goals as goal

pub returns : goal.returns
returns c =
    let c₄ = c.before.before.before in
    let c₃ = c₄.before.before.before in
    let c₂ = c₃.before.before.before in
    let c₁ = c₂.before.before.before in
    let told = c₁.before in
    let s = told.args.self in
    let n = told.args.next in
    let gs = told.struct_told-1.given in
    let gn = told.struct_told-2-1.given in
    let add = field_back n.add gn.0.1 in
    let lo = field_back n.lo gn.1.0.1 in
    let hi = field_back n.hi gn.1.1.0.1 in
    λ i. record {
      add = summed c₃.saturating_add_i64.type_inv c₃.saturating_add_i64.ensures (field_back s.add gs.0.1) add i;
      lo = clamped c₄.clamp_i64.type_inv c₄.clamp_i64.ensures (summed c₁.saturating_add_i64-lo.type_inv c₁.saturating_add_i64-lo.ensures (field_back s.lo gs.1.0.1) add) lo hi i;
      hi = clamped c.clamp_i64-2.type_inv c.clamp_i64-2.ensures (summed c₂.saturating_add_i64-hi.type_inv c₂.saturating_add_i64-hi.ensures (field_back s.hi gs.1.1.0.1) add) lo hi i;
    }
