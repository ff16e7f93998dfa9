-- `drive_sheet::groups::any_bad_repeats` meets its contract.
use mathlib.Core.Path.{◌≡◌, ap, ◌∙◌}
use native.Mathlib.Omega.{arith}
use Rattle.otp.specs.Search.{any_of}
use Rattle.otp.proofs.Search.{any_none, any_more}
use Rattle.drive_sheet.proofs.groups.any_bad_repeats.Invariants.{refused}
use Rattle.drive_sheet.proofs.groups.any_bad_repeats.Goals as goal

pub loop-group-init : goal.loop-group-init
loop-group-init c = any_none _

pub loop-group-preserved : goal.loop-group-preserved
loop-group-preserved c = any_more _ _ _ _ c.loop-group.invariant c.bad_repeats-bad.ensures

pub returns : goal.returns
returns c =
    let n : c.loop-group.group-index ≡ 10 = omega arith in
    c.loop-group.invariant ∙ ap (any_of (refused c.args.sheet)) n
