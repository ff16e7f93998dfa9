-- `reset::cut_display` meets its contract.
use Rattle.reset.proofs.Cases.{cuts_none, cuts, drops}
use Rattle.reset.proofs.Kept.{ready_logged}
use Rattle.counts.specs.Counts.{picture}
use Rattle.world.specs.World.{with_glass_log}
use Rattle.reset.proofs.cut_display.Goals as goal

pub returns-in_default : goal.returns-in_default
returns-in_default c =
    let s = c.args in
    cuts_none s.luts.now (with_glass_log s.state s.states.now (picture s.pixels.now s.counts.now) s.log.now) c.in_default.is

pub finish_cut-requires : goal.finish_cut-requires
finish_cut-requires c =
    let s = c.args in
    ready_logged s.states.now s.luts.now s.pixels.now s.counts.now _ _ _ c.report-noted.ensures c.requires

pub returns-then-display-state : goal.returns-then-display-state
returns-then-display-state c =
    let s = c.args in
    cuts s.luts.now (with_glass_log s.state s.states.now (picture s.pixels.now s.counts.now) s.log.now) _ c.in-Some.is _ _ c.if-display-state.true c.report-noted.ensures c.finish_cut.ensures

pub returns : goal.returns
returns c =
    let s = c.args in
    drops s.luts.now (with_glass_log s.state s.states.now (picture s.pixels.now s.counts.now) s.log.now) _ c.in-Some.is _ c.if-display-state.false c.set_display.ensures
