-- `admission::begin` meets its contract.
use Rattle.counts.specs.Counts.{picture}
use Rattle.world.specs.World.{with_buffers, lent}
use Rattle.begin.proofs.Cases.{in_reset_is, asleep, busy, free}
use Rattle.admission.proofs.begin.Goals as goal

pub returns-then-is_busy-command : goal.returns-then-is_busy-command
returns-then-is_busy-command c =
    let kept = lent c.args.black_white.now c.args.red.now c.args.gates.now c.args.otp.now in
    let given = with_buffers c.args.state c.args.states.now c.args.luts.now (picture c.args.pixels.now c.args.counts.now) c.args.log.now in
    busy kept c.args.command given _ c.in-Running.is _ c.is_pending-is_busy.ensures _ c.if-is_busy-command.true c.report-then-is_busy-command.ensures

pub returns-in-InReset : goal.returns-in-InReset
returns-in-InReset c =
    let kept = lent c.args.black_white.now c.args.red.now c.args.gates.now c.args.otp.now in
    let given = with_buffers c.args.state c.args.states.now c.args.luts.now (picture c.args.pixels.now c.args.counts.now) c.args.log.now in
    in_reset_is kept c.args.command given _ _ c.in-InReset.is c.report.ensures

pub returns-in-Asleep : goal.returns-in-Asleep
returns-in-Asleep c =
    let kept = lent c.args.black_white.now c.args.red.now c.args.gates.now c.args.otp.now in
    let given = with_buffers c.args.state c.args.states.now c.args.luts.now (picture c.args.pixels.now c.args.counts.now) c.args.log.now in
    asleep kept c.args.command given _ _ c.in-Asleep.is c.report-in-Asleep.ensures

pub returns-else-is_busy-command : goal.returns-else-is_busy-command
returns-else-is_busy-command c =
    let kept = lent c.args.black_white.now c.args.red.now c.args.gates.now c.args.otp.now in
    let given = with_buffers c.args.state c.args.states.now c.args.luts.now (picture c.args.pixels.now c.args.counts.now) c.args.log.now in
    free kept c.args.command given _ c.in-Running.is _ c.is_pending-is_busy.ensures _ c.if-is_busy-command.false c.decode.ensures
