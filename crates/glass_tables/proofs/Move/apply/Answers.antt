-- `glass_tables::Move::apply` meets its contract. Assumes nothing.
use mathlib.Core.Path.{◌≡◌, sym, subst, ◌∙◌}
use lib.IntN.{ℤ, ◌+ℤ◌}
use mir.Syntax.{w64}
use mir.Val.{SFits}
use Rattle.numbers.proofs.Lin.{rd, back, field_back}
use Rattle.numbers.proofs.Hold.{clamped}
use Rattle.glass_tables.specs.Moves.{moved_by}
use Rattle.glass_tables.proofs.Moved.{sum_fits}
use Rattle.glass_tables.proofs.Move.apply.Goals.{After-struct_told-3-1}
use Rattle.glass_tables.proofs.Move.apply.Goals as goal

-- what is added
sum : (c : After-struct_told-3-1)
    → rd c.clamp_i64.result +ℤ rd c.args.self.add
    ≡ moved_by c.args.self c.args.state
sum c =
    let call = c in
    let s = call in
    let m = s.args.self in
    let g = c.struct_told-3-1.given in
    let held = clamped call.clamp_i64.type_inv call.clamp_i64.ensures (back s.ranges.state) (field_back m.lo g.0.1) (field_back m.hi g.1.0.1) in
    λ i. held i +ℤ field_back m.add g.1.1.0.1 i

pub overflow_add-result : goal.overflow_add-result
overflow_add-result c =
    let s = c in
    subst (λ (z : ℤ). SFits w64 z) (sym (sum c)) (sum_fits s.args.self s.args.state s.requires)

pub returns : goal.returns
returns c = back (overflow_add-result c) ∙ sum c
