-- `walk::whole_step` meets its contract. Assumes nothing.
use mathlib.Core.Path.{sym, ap, ◌∙◌}
use Rattle.numbers.proofs.Lin.{field_back}
use Rattle.glass.specs.Transfers.{then_t, shift_t}
use Rattle.waveform_laws.proofs.Stepped.{stepped_none, stepped_some}
use Rattle.walk.proofs.whole_step.Goals as goal

pub returns-then-phase-eq0 : goal.returns-then-phase-eq0
returns-then-phase-eq0 c = let a = c.args in sym (stepped_none a.driving a.step a.transfer c.if-phase-eq0.true)

pub returns : goal.returns
returns c =
    let told2 = c in
    let told = told2 in
    let test = told in
    let a = test.args in
    c.then.ensures
    ∙ ap (then_t a.transfer)
    (c.shift.ensures ∙ (λ i. shift_t (field_back a.step.drive told.struct_told-1.given.1.0.1 i) (field_back a.driving.swing told2.struct_told-2-1.given.1.1.0.1 i)))
    ∙ sym (stepped_some a.driving a.step a.transfer test.if-phase-eq0.false)
