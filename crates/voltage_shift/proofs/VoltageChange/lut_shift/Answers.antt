-- `voltage_shift::VoltageChange::lut_shift` meets its contract: a sum that stops at 2^64 − 1 is above any swing.
use mathlib.Core.Path.{◌≡◌, ap, ◌∙◌}
use Prim.Native.Nat.{ℕ, ◌≤◌, min}
use native.Mathlib.Omega.{arith}
use Rattle.numbers.specs.Saturation.{largest}
use Rattle.voltage_shift.specs.Shift.{shift_of, gray_steps}
use Rattle.voltage_shift.proofs.VoltageChange.lut_shift.Goals as goal

bound : (n : ℕ) {swing shift r : ℕ} → swing ≤ largest 64 → shift ≡ min n (largest 64) → r ≡ min shift swing → r ≡ min n swing
bound n fits a b = omega arith

pub returns : goal.returns
returns c =
    let m = c.min-bound in
    let w = c.waveform_shift in
    let a = c.args in
    let e = bound (shift_of a.self.millivolts a.self.driving a.waveform.groups a.lut) (omega arith) w.ensures m.ensures in
    λ i. record { bound = e i; steps = (c.gray_steps-steps.ensures ∙ ap (gray_steps a.swing) e) i }
