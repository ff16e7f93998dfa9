-- `walk::cut_group` meets its contract. Assumes nothing.
use mathlib.Core.Path.{◌≡◌, sym, ◌∙◌}
use mathlib.Core.Bool.{false}
use Prim.Native.Nat.{◌+◌, min}
use Rattle.numbers.specs.Saturation.{largest}
use native.Mathlib.Omega.{arith}
use Rattle.waveform.specs.Walks.{group_in}
use Rattle.waveform_laws.specs.Total.{total}
use Rattle.waveform_laws.proofs.Lasting.{total_group}
use Rattle.waveform_laws.proofs.Steps.{stopped_stays}
use Rattle.walk.proofs.Within.{within}
use Rattle.walk.proofs.cut_group.Goals as goal

pub returns-then-progress : goal.returns-then-progress
returns-then-progress c = let s = c.args in sym (stopped_stays s.driving s.until s.progress (group_in s.driving s.group) c.if-progress.true)

pub returns-then-end-until : goal.returns-then-end-until
returns-then-end-until c =
    let added = c in
    let length = added in
    let going = length in
    let s = going.args in
    let ps = group_in s.driving s.group in
    let t = total_group s.driving.levels s.driving.drive s.group in
    let e : added.saturating_add-end.result ≡ min (s.progress.elapsed + total ps) (largest 64) = omega (arith, added.saturating_add-end.ensures, length.group_ns.ensures) in
    (λ i. record { transfer = c.group_transfer-moved.ensures i; elapsed = e i; stopped = false })
    ∙ sym (within s.driving s.until s.progress ps going.if-progress.false (omega arith) (omega (arith, e, c.if-end-until.true)))
