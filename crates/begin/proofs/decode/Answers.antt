-- `begin::decode` meets its contract.
use Rattle.counts.specs.Counts.{picture}
use Rattle.world.specs.World.{with_buffers, lent}
use Rattle.begin.proofs.Cases.{unknown, reserved, unsupported, writes, reads}
use Rattle.begin.proofs.decode.Goals as goal

pub returns-in_default : goal.returns-in_default
returns-in_default c =
    let a = c.args in
    let kept = lent a.black_white.now a.red.now a.gates.now a.otp.now in
    let given = with_buffers a.state a.states.now a.luts.now (picture a.pixels.now a.counts.now) a.log.now in
    unknown kept a.command given _ c.kind-known.ensures _ c.in_default.is c.report.ensures

pub returns-in-Reserved : goal.returns-in-Reserved
returns-in-Reserved c =
    let a = c.args in
    let kept = lent a.black_white.now a.red.now a.gates.now a.otp.now in
    let given = with_buffers a.state a.states.now a.luts.now (picture a.pixels.now a.counts.now) a.log.now in
    reserved kept a.command given _ c.kind-known.ensures _ c.in-Some.is _ c.in-Reserved.is c.report-in-Reserved.ensures

pub returns-in-Unsupported : goal.returns-in-Unsupported
returns-in-Unsupported c =
    let a = c.args in
    let kept = lent a.black_white.now a.red.now a.gates.now a.otp.now in
    let given = with_buffers a.state a.states.now a.luts.now (picture a.pixels.now a.counts.now) a.log.now in
    unsupported kept a.command given _ c.kind-known.ensures _ c.in-Some.is _ c.in-Unsupported.is c.report-in-Unsupported.ensures

pub returns-in-Write : goal.returns-in-Write
returns-in-Write c =
    let a = c.args in
    let kept = lent a.black_white.now a.red.now a.gates.now a.otp.now in
    let given = with_buffers a.state a.states.now a.luts.now (picture a.pixels.now a.counts.now) a.log.now in
    writes kept a.command given _ c.kind-known.ensures _ c.in-Some.is _ _ c.in-Write.is c.accept.ensures

pub returns-in-Read : goal.returns-in-Read
returns-in-Read c =
    let a = c.args in
    let kept = lent a.black_white.now a.red.now a.gates.now a.otp.now in
    let given = with_buffers a.state a.states.now a.luts.now (picture a.pixels.now a.counts.now) a.log.now in
    reads kept a.command given _ c.kind-known.ensures _ c.in-Some.is _ c.in-Read.is c.accept-in-Read.ensures
