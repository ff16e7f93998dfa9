-- `drive_sheet::groups::any_high_code` meets its contract.
use mathlib.Core.Path.{◌≡◌, refl, ap, ◌∙◌}
use native.Mathlib.Omega.{arith}
use Rattle.otp.specs.Search.{any_of}
use Rattle.otp.proofs.Search.{any_none, any_more}
use Rattle.drive_sheet.specs.Tests.{high_code}
use Rattle.drive_sheet.proofs.groups.any_high_code.Goals as goal

pub loop-code-init : goal.loop-code-init
loop-code-init c = any_none _

pub loop-code-preserved : goal.loop-code-preserved
loop-code-preserved c = any_more _ _ _ _ c.loop-code.invariant refl

pub returns : goal.returns
returns c =
    let n : c.loop-code.code-index ≡ 20 = omega arith in
    c.loop-code.invariant ∙ ap (any_of (high_code c.args.codes)) n
