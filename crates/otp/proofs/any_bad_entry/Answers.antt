-- `otp::any_bad_entry` meets its contract.
use mathlib.Core.Path.{◌≡◌, ap, ◌∙◌}
use Prim.Native.Nat.{◌/◌}
use native.Mathlib.Omega.{arith}
use lib.ListN.{length}
use Rattle.otp.specs.Table.{bad_entry}
use Rattle.otp.specs.Search.{any_of}
use Rattle.otp.proofs.Search.{any_none, any_more}
use Rattle.otp.proofs.Bytes.{bad_in}
use Rattle.otp.proofs.any_bad_entry.Goals as goal

pub loop-entry-init : goal.loop-entry-init
loop-entry-init c = any_none _

pub loop-entry-preserved : goal.loop-entry-preserved
loop-entry-preserved c =
    let otp = c.args.otp.now in
    let k = c.loop-entry.entry-index in
    any_more _ _ _ _ c.loop-entry.invariant
    (c.bad_entry-bad.ensures ∙ bad_in otp k (omega (arith, c.loop-entry-test.true, c.as_chunks.ensures.front_len)) c.as_chunks.ensures.front)

pub returns : goal.returns
returns c =
    let otp = c.args.otp.now in
    let e : c.loop-entry.entry-index ≡ length otp / 118 = omega (arith, c.as_chunks.ensures.front_len) in
    c.loop-entry.invariant ∙ ap (any_of (bad_entry otp)) e
