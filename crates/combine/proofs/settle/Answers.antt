-- `combine::settle` meets its contract. Assumes nothing.
use mathlib.Core.Path.{refl, sym, ◌∙◌}
use lib.IntN.{pos}
use lib.Signed.{le_z}
use Rattle.numbers.proofs.Cases.{took, passed}
use Rattle.numbers.proofs.Lin.{field_back}
use Rattle.combine.specs.Settled.{settled}
use Rattle.combine.proofs.settle.Goals as goal

pub returns-then-transfer : goal.returns-then-transfer
unfolding settled
returns-then-transfer c =
    let t = c.args.transfer in
    let g = c.struct_told-then-transfer-1.given in
    let lo = field_back t.lo g.1.0.1 in
    let hi = field_back t.hi g.1.1.0.1 in
    took _ _ _ _ (sym (λ i. le_z (hi i) (lo i)) ∙ c.if-transfer.true) (λ i. record { add = pos 0; lo = lo i; hi = hi i })

pub returns : goal.returns
unfolding settled
returns c =
    let t = c.args.transfer in
    let g = c.struct_told-1.given in
    let lo = field_back t.lo g.1.0.1 in
    let hi = field_back t.hi g.1.1.0.1 in
    passed _ _ _ _ (sym (λ i. le_z (hi i) (lo i)) ∙ c.if-transfer.false) refl
