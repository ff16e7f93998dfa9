-- `approximation::any_approximate_entry` meets its contract.
use mathlib.Core.Path.{◌≡◌, ap, ◌∙◌}
use Prim.Native.Nat.{ℕ, ◌/◌}
use lib.Dec.{eqb}
use Rattle.otp.proofs.Bytes.{byte_is}
use native.Mathlib.Omega.{arith}
use lib.ListN.{length}
use Rattle.approximation.specs.Approximation.{approximate_entry}
use Rattle.otp.specs.Search.{any_of}
use Rattle.otp.proofs.Search.{any_none, any_more}
use Rattle.approximation.proofs.any_approximate_entry.Goals as goal

pub loop-entry-init : goal.loop-entry-init
loop-entry-init c = any_none _

pub loop-entry-preserved : goal.loop-entry-preserved
loop-entry-preserved c =
    let otp = c.args.otp.now in
    let k = c.loop-entry.entry-index in
    any_more _ _ _ _ c.loop-entry.invariant
    (ap (λ (n : ℕ). eqb n 0) (byte_is otp k (omega (arith, c.loop-entry-test.true, c.as_chunks.ensures.front_len)) c.as_chunks.ensures.front 1 (omega arith)))

pub returns : goal.returns
returns c =
    let otp = c.args.otp.now in
    let e : c.loop-entry.entry-index ≡ length otp / 118 = omega (arith, c.as_chunks.ensures.front_len) in
    c.loop-entry.invariant ∙ ap (any_of (approximate_entry otp)) e
