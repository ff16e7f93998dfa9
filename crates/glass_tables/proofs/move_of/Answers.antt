-- `glass_tables::move_of` meets its contract. Assumes nothing.
use mathlib.Core.Path.{◌≡◌, refl, sym, subst, ◌∙◌}
use lib.IntN.{pos, ◌+ℤ◌, ◌-ℤ◌}
use Rattle.numbers.specs.Saturation.{sat_z, most}
use Rattle.numbers.proofs.Lin.{whole, rd, got, field_back}
use Rattle.numbers.proofs.Hold.{summed, saturated_is}
use Rattle.glass_tables.specs.declared.Move.{Move}
use Rattle.glass_tables.specs.Moves.{Does}
use Rattle.glass_tables.proofs.Moved.{word, all_below, sums}
use Rattle.glass_tables.proofs.move_of.Goals as goal

pub returns-then-highest-transfer : goal.returns-then-highest-transfer
returns-then-highest-transfer c =
    let sum = c in
    let t = sum.args.transfer in
    let g = sum.struct_told-1.given in
    let add = field_back t.add g.0.1 in
    let lo = field_back t.lo g.1.0.1 in
    let highest : rd sum.saturating_add_i64-highest.result ≡ sat_z (most +ℤ t.add) = summed {x = most} sum.saturating_add_i64-highest.type_inv sum.saturating_add_i64-highest.ensures refl add in
    subst (λ (m : Move). Does t m) (sym (λ i. record { lo = lo i; hi = lo i; add = pos 0 }))
    (all_below t (word (record { sfits = g.0.1 })) (word (record { sfits = g.1.0.1 })) (word (record { sfits = g.1.1.0.1 })) (omega whole))

pub returns : goal.returns
returns c =
    let low-call = c in
    let sum = low-call in
    let s = sum in
    let t = s.args.transfer in
    let g = sum.struct_told-1.given in
    let add = field_back t.add g.0.1 in
    let lo = field_back t.lo g.1.0.1 in
    let hi = field_back t.hi g.1.1.0.1 in
    let highest : rd sum.saturating_add_i64-highest.result ≡ sat_z (most +ℤ t.add) = summed {x = most} sum.saturating_add_i64-highest.type_inv sum.saturating_add_i64-highest.ensures refl add in
    let one = low-call.saturating_sub-lo in
    let two = c.saturating_sub-hi in
    let low : rd one.result ≡ sat_z (t.lo -ℤ t.add) = got one.type_inv (one.ensures ∙ saturated_is _ ∙ (λ i. sat_z (lo i -ℤ add i))) in
    let high : rd two.result ≡ sat_z (t.hi -ℤ t.add) = got two.type_inv (two.ensures ∙ saturated_is _ ∙ (λ i. sat_z (hi i -ℤ add i))) in
    subst (λ (m : Move). Does t m) (sym (λ i. record { lo = low i; hi = high i; add = add i }))
    (sums t (word (record { sfits = g.0.1 })) (word (record { sfits = g.1.0.1 })) (word (record { sfits = g.1.1.0.1 })) (omega whole) s.requires)
