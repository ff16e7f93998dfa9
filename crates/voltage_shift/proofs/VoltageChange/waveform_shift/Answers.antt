-- `voltage_shift::VoltageChange::waveform_shift` meets its contract: after k turns the total is the sum of k groups, in 64 bits.
use mathlib.Core.Path.{◌≡◌, refl, sym, ap, ◌∙◌}
use native.Mathlib.Omega.{arith}
use native.Mathlib.Numerals.{add-one}
use Prim.Native.Nat.{ℕ, ◌+◌, min}
use Rattle.numbers.specs.Saturation.{largest}
use Rattle.voltage_shift.specs.Shift.{sum, shift_of}
use Rattle.voltage_shift.proofs.Sums.{sum_capped}
use Rattle.voltage_shift.proofs.VoltageChange.waveform_shift.Invariants.{shiftIn}
use Rattle.voltage_shift.proofs.VoltageChange.waveform_shift.Goals as goal

pub loop-group-init : goal.loop-group-init
unfolding sum
loop-group-init c = refl

pub loop-group-preserved : goal.loop-group-preserved
unfolding sum
loop-group-preserved c = let m = c in
    let a = m.args in
    let f = shiftIn a.self.millivolts a.self.driving a.lut a.waveform.groups in c.saturating_add-total.ensures
    ∙ (λ i. min (m.loop-group.invariant i + c.group_shift.ensures i) (largest 64))
    ∙ sum_capped (sum m.loop-group.group-index f) (f m.loop-group.group-index) (largest 64)
    ∙ ap (λ (n : ℕ). min (sum n f) (largest 64)) (sym (add-one m.loop-group.group-index))

pub returns : goal.returns
unfolding shift_of
returns c =
    let a = c.args in
    let e : c.loop-group.group-index ≡ 10 = omega arith in
    c.loop-group.invariant ∙ ap (λ (n : ℕ). min (sum n (shiftIn a.self.millivolts a.self.driving a.lut a.waveform.groups)) (largest 64)) e
