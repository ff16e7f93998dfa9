-- `begin::accept` meets its contract.
use Rattle.counts.specs.Counts.{picture}
use Rattle.world.specs.World.{with_buffers, lent}
use Rattle.begin.proofs.Cases.{still_activatable, accepts}
use Rattle.begin.proofs.accept.Goals as goal

pub start_command-requires : goal.start_command-requires
start_command-requires c =
    let s = c in
    still_activatable _ _ s.args.state _ s.args.states.now s.args.luts.now s.args.pixels.now s.args.counts.now s.args.black_white.now s.args.red.now s.args.gates.now c.make_current-current.ensures s.requires

pub returns : goal.returns
returns c =
    let a = c.args in
    let kept = lent a.black_white.now a.red.now a.gates.now a.otp.now in
    let given = with_buffers a.state a.states.now a.luts.now (picture a.pixels.now a.counts.now) a.log.now in
    accepts kept a.command given _ _ _ c.make_current-current.ensures c.start_command.ensures
