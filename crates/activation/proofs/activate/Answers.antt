-- `activation::activate` meets its contract.
use Rattle.counts.specs.Counts.{picture}
use Rattle.world.specs.World.{with_buffers, lent}
use Rattle.activation.specs.Activation.{with_luts}
use Rattle.activation.proofs.Cases.{activates}
use Rattle.activation.proofs.Kept.{ready_after}
use Rattle.activation.proofs.activate.Goals as goal

pub run_stages-settled-requires : goal.run_stages-settled-requires
run_stages-settled-requires c = c.requires.startable

pub advance-requires : goal.advance-requires
advance-requires c =
    let s = c.args in
    ready_after (lent s.black_white.now s.red.now s.gates.now s.otp.now) (with_luts s.state s.luts.now s.log.now) _ s.states.now s.pixels.now s.counts.now c.run_stages-settled.ensures c.run_stages-settled.auto.luts c.requires.ready

pub returns : goal.returns
returns c =
    let s = c.args in
    activates (lent s.black_white.now s.red.now s.gates.now s.otp.now) (with_buffers s.state s.states.now s.luts.now (picture s.pixels.now s.counts.now) s.log.now) _ _ c.run_stages-settled.ensures c.advance.ensures
