-- `voltage_shift::VoltageChange::group_shift` meets its contract.
use mathlib.Core.Path.{ap, ◌∙◌}
use Prim.Native.Nat.{ℕ, ◌+◌, ◌*◌, min}
use native.Mathlib.Omega.{arith}
use lib.ListN.{get_or}
use Rattle.numbers.specs.Choice.{pick}
use Rattle.numbers.specs.Saturation.{largest}
use Rattle.voltage_shift.specs.Shift.{source_uses, vcom_uses, exactly_one}
use Rattle.voltage_shift.proofs.Sums.{group_capped}
use Rattle.voltage_shift.proofs.VoltageChange.group_shift.Goals as goal

pub returns : goal.returns
returns c =
    let a = c.args in
    let at : ℕ → ℕ = λ n. pick (exactly_one (source_uses a.self.driving (get_or a.group.codes n 0)) (vcom_uses a.self.driving (get_or a.group.codes 16 0))) (get_or a.group.frames 0 0) 0 in
    group_capped a.self.millivolts a.self.driving a.group a.lut (c.changing_frames-first.ensures.is ∙ ap at (omega arith))
    c.changing_frames-second.ensures.is
    c.changing_frames-third.ensures.is
    c.changing_frames-fourth.ensures.is
    (c.saturating_mul-runs.ensures ∙ ap (λ (n : ℕ). min ((c.changing_frames-first.result + c.changing_frames-second.result + c.changing_frames-third.result + c.changing_frames-fourth.result) * n) (largest 64)) c.from.ensures)
    c.saturating_mul-drive.ensures
    c.saturating_mul.ensures
