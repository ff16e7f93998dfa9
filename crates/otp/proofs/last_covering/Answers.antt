-- `otp::last_covering` meets its contract: the loop goes from the last entry to the first.
use mathlib.Core.Path.{◌≡◌, sym, ap, ◌∙◌}
use Prim.Native.Nat.{◌-◌, ◌<◌}
use Rattle.otp.specs.Table.{entry_count}
use Rattle.otp.specs.Search.{last_of}
use Rattle.otp.specs.Waveform.{covers}
use native.Mathlib.Omega.{arith}
use Rattle.otp.proofs.Search.{last_hit, last_pass, last_none}
use Rattle.otp.proofs.Bytes.{covers_in}
use Rattle.otp.proofs.last_covering.Goals as goal

pub loop-entry-init : goal.loop-entry-init
loop-entry-init c = ap (last_of (covers c.args.otp.now c.args.mode c.args.register)) (sym c.as_chunks.ensures.front_len)

pub returns-then-covers_register : goal.returns-then-covers_register
returns-then-covers_register c =
    let a = c.args in
    let within : c.loop-entry.entry - 1 < entry_count a.otp.now = omega (arith, c.loop-entry-test.true, c.as_chunks.ensures.front_len, c.loop-entry.auto.entry) in
    let here = covers_in a.otp.now (c.loop-entry.entry - 1) within c.as_chunks.ensures.front a.mode a.register in
    sym (c.loop-entry.invariant ∙ last_hit _ _ c.loop-entry-test.true (sym here ∙ sym c.covers_register.ensures ∙ c.if-covers_register.true))

pub loop-entry-preserved : goal.loop-entry-preserved
loop-entry-preserved c =
    let a = c.args in
    let within : c.loop-entry.entry - 1 < entry_count a.otp.now = omega (arith, c.loop-entry-test.true, c.as_chunks.ensures.front_len, c.loop-entry.auto.entry) in
    let here = covers_in a.otp.now (c.loop-entry.entry - 1) within c.as_chunks.ensures.front a.mode a.register in
    c.loop-entry.invariant ∙ last_pass _ _ c.loop-entry-test.true (sym here ∙ sym c.covers_register.ensures ∙ c.if-covers_register.false)

pub returns : goal.returns
returns c = let z : c.loop-entry.entry ≡ 0 = omega arith in sym (c.loop-entry.invariant ∙ rw z (last_none _))
