-- `clock::advance` meets its contract.
use Rattle.counts.specs.Counts.{picture}
use Rattle.world.specs.World.{with_glass}
use Rattle.clock.proofs.Cases.{rests, advances}
use Rattle.clock.proofs.Kept.{ready_now}
use Rattle.clock.proofs.advance.Goals as goal

pub returns-then-is_quiet : goal.returns-then-is_quiet
returns-then-is_quiet c =
    let s = c.args in
    rests s.luts.now s.time (with_glass s.state s.states.now (picture s.pixels.now s.counts.now)) _ _ c.move_clock-moved.ensures c.is_quiet.ensures c.if-is_quiet.true

pub end_display-shown-requires : goal.end_display-shown-requires
end_display-shown-requires c =
    let s = c in
    ready_now s.args.state _ _ s.args.states.now s.args.luts.now s.args.pixels.now s.args.counts.now c.move_clock-moved.ensures s.requires

pub returns : goal.returns
returns c =
    let s = c.args in
    advances s.luts.now s.time (with_glass s.state s.states.now (picture s.pixels.now s.counts.now)) _ _ _ _ c.move_clock-moved.ensures c.end_display-shown.ensures c.lower_busy-bus.ensures c.set_bus.ensures
