-- `chip::close::report_missing` meets its contract.
use mathlib.Core.Path.{sym}
use Prim.Native.Nat.{zero-le}
use Rattle.device.proofs.ByKind.{bounded, no_least}
use Rattle.chip.proofs.Cases.{lacks, lacks_none}
use Rattle.chip.specs.Close.{missing}
use Rattle.chip.proofs.close.report_missing.Goals as goal

pub returns-in-Idle : goal.returns-in-Idle
unfolding missing
returns-in-Idle c = rw c.in-Idle.is

pub returns-in-Ignoring : goal.returns-in-Ignoring
unfolding missing
returns-in-Ignoring c = rw c.in-Ignoring.is

pub returns-in_default : goal.returns-in_default
returns-in_default c = lacks_none _ _ _ _ c.in-Active.is 0 (sym (no_least c.in-Active.active.kind c.in_default.ensures)) zero-le

pub returns-then-active-bounds : goal.returns-then-active-bounds
returns-then-active-bounds c =
    let b = bounded c.in-Active.active.kind c.in-Some.bounds c.in-Some.ensures in
    lacks _ _ _ _ c.in-Active.is _ _ b.least c.if-active-bounds.true c.report.ensures

pub returns-else-active-bounds : goal.returns-else-active-bounds
returns-else-active-bounds c =
    let b = bounded c.in-Active.active.kind c.in-Some.bounds c.in-Some.ensures in
    lacks_none _ _ _ _ c.in-Active.is _ b.least c.if-active-bounds.false
