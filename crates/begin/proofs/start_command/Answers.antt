-- `begin::start_command` meets its contract.
use borrow.Author.Tests.{eq-eqb, ne_eqb}
use Rattle.counts.specs.Counts.{picture}
use Rattle.world.specs.World.{with_buffers, lent}
use Rattle.begin.proofs.Cases.{resets, activates, senses, points, starts_nothing}
use Rattle.begin.proofs.start_command.Goals as goal

pub returns-then-command-eq18 : goal.returns-then-command-eq18
returns-then-command-eq18 c =
    let a = c.args in
    let kept = lent a.black_white.now a.red.now a.gates.now a.otp.now in
    let given = with_buffers a.state a.states.now a.luts.now (picture a.pixels.now a.counts.now) a.log.now in
    resets kept a.command given _ (eq-eqb _ _ c.if-command-eq18.true) c.soft_reset.ensures

pub returns-then-command-eq32 : goal.returns-then-command-eq32
returns-then-command-eq32 c =
    let a = c.args in
    let kept = lent a.black_white.now a.red.now a.gates.now a.otp.now in
    let given = with_buffers a.state a.states.now a.luts.now (picture a.pixels.now a.counts.now) a.log.now in
    activates kept a.command given (ne_eqb _ _ c.if-command-eq18.false) _ (eq-eqb _ _ c.if-command-eq32.true) c.activate.ensures

pub returns-then-command-eq40 : goal.returns-then-command-eq40
returns-then-command-eq40 c =
    let a = c.args in
    let kept = lent a.black_white.now a.red.now a.gates.now a.otp.now in
    let given = with_buffers a.state a.states.now a.luts.now (picture a.pixels.now a.counts.now) a.log.now in
    senses kept a.command given (ne_eqb _ _ c.if-command-eq18.false) (ne_eqb _ _ c.if-command-eq32.false) _ (eq-eqb _ _ c.if-command-eq40.true) c.sense_vcom.ensures

pub returns-then-command : goal.returns-then-command
returns-then-command c =
    let a = c.args in
    let kept = lent a.black_white.now a.red.now a.gates.now a.otp.now in
    let given = with_buffers a.state a.states.now a.luts.now (picture a.pixels.now a.counts.now) a.log.now in
    points kept a.command given (ne_eqb _ _ c.if-command-eq18.false) (ne_eqb _ _ c.if-command-eq32.false) (ne_eqb _ _ c.if-command-eq40.false) _ c.if-command.true c.point.ensures

pub returns : goal.returns
returns c =
    let a = c.args in
    let kept = lent a.black_white.now a.red.now a.gates.now a.otp.now in
    let given = with_buffers a.state a.states.now a.luts.now (picture a.pixels.now a.counts.now) a.log.now in
    starts_nothing kept a.command given (ne_eqb _ _ c.if-command-eq18.false) (ne_eqb _ _ c.if-command-eq32.false) (ne_eqb _ _ c.if-command-eq40.false) c.if-command.false
