-- `reset::set_line` meets its contract.
use Rattle.reset.proofs.Cases.{keeps_low, falls, falls_asleep, keeps_high, keeps_asleep, rises}
use Rattle.counts.specs.Counts.{picture}
use Rattle.world.specs.World.{with_glass_log}
use Rattle.reset.proofs.set_line.Goals as goal

pub returns-then-low : goal.returns-then-low
returns-then-low c =
    let s = c.args in
    let g = with_glass_log s.state s.states.now (picture s.pixels.now s.counts.now) s.log.now in
    keeps_low s.luts.now s.low g g _ c.if-low.true c.in-InReset.is

pub returns-then-low-2 : goal.returns-then-low-2
returns-then-low-2 c =
    let s = c.args in
    let g = with_glass_log s.state s.states.now (picture s.pixels.now s.counts.now) s.log.now in
    falls s.luts.now s.low g _ _ c.if-low-2.true c.assert_reset.ensures c.in-Running.is

pub returns-then-low-3 : goal.returns-then-low-3
returns-then-low-3 c =
    let s = c.args in
    let g = with_glass_log s.state s.states.now (picture s.pixels.now s.counts.now) s.log.now in
    falls_asleep s.luts.now s.low g _ _ c.if-low-3.true c.assert_reset-then-low-3.ensures c.in-Asleep.is

pub returns-else-low : goal.returns-else-low
returns-else-low c =
    let s = c.args in
    let g = with_glass_log s.state s.states.now (picture s.pixels.now s.counts.now) s.log.now in
    rises s.luts.now s.low g _ _ c.if-low.false c.in-InReset.is c.release_reset.ensures

pub returns-else-low-2 : goal.returns-else-low-2
returns-else-low-2 c =
    let s = c.args in
    let g = with_glass_log s.state s.states.now (picture s.pixels.now s.counts.now) s.log.now in
    keeps_high s.luts.now s.low g g _ c.if-low-2.false c.in-Running.is

pub returns-else-low-3 : goal.returns-else-low-3
returns-else-low-3 c =
    let s = c.args in
    let g = with_glass_log s.state s.states.now (picture s.pixels.now s.counts.now) s.log.now in
    keeps_asleep s.luts.now s.low g g _ c.if-low-3.false c.in-Asleep.is
