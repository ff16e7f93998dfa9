-- `low::take_command` meets its contract.
use Rattle.counts.specs.Counts.{picture}
use Rattle.world.specs.World.{with_buffers, lent}
use Rattle.low.proofs.Cases.{still_activatable, takes}
use Rattle.low.proofs.take_command.Goals as goal

pub begin-requires : goal.begin-requires
begin-requires c =
    let s = c.args in
    still_activatable s.state s.states.now s.luts.now (picture s.pixels.now s.counts.now)
    s.black_white.now s.red.now s.gates.now s.log.now s.time _ _
    c.advance-present.ensures
    c.close_command-closed.ensures
    c.requires

pub returns : goal.returns
returns c =
    let s = c.args in
    takes (lent s.black_white.now s.red.now s.gates.now s.otp.now) s.time s.command
    (with_buffers s.state s.states.now s.luts.now (picture s.pixels.now s.counts.now) s.log.now) _ _ _
    c.advance-present.ensures
    c.close_command-closed.ensures
    c.begin.ensures
