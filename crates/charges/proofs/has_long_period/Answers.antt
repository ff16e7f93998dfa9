-- `charges::has_long_period` meets its contract.
use mathlib.Core.Path.{◌≡◌, refl, ap, ◌∙◌}
use native.Mathlib.Omega.{arith}
use Rattle.otp.specs.Search.{any_of}
use Rattle.otp.proofs.Search.{any_none, any_more}
use Rattle.charges.proofs.has_long_period.Invariants.{isLong}
use Rattle.charges.proofs.has_long_period.Goals as goal

pub loop-ns-init : goal.loop-ns-init
loop-ns-init c = any_none _

pub loop-ns-preserved : goal.loop-ns-preserved
loop-ns-preserved c = any_more (isLong c.args.frame_period) c.loop-ns.ns-index _ _ c.loop-ns.invariant refl

pub returns : goal.returns
returns c =
    let e : c.loop-ns.ns-index ≡ 16 = omega arith in
    c.loop-ns.invariant ∙ ap (any_of (isLong c.args.frame_period)) e
