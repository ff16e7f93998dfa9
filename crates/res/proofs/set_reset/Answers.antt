-- `res::set_reset` meets its contract.
use mathlib.Core.Path.{◌∙◌}
use Rattle.clock.specs.Advance.{advanced}
use Rattle.reset.specs.Reset.{by_line}
use Rattle.counts.specs.Counts.{picture}
use Rattle.world.specs.World.{with_glass_log, with_glass}
use Rattle.res.proofs.Cases.{line_ready, line_log, line_ready_then, line_moves, line_refused}
use Rattle.res.proofs.set_reset.Goals as goal

pub advance-present-requires : goal.advance-present-requires
advance-present-requires c =
    let s = c.args in
    rw c.in-Some.ensures.cases.same
    (line_ready s.luts.now s.time s.asserted (with_glass_log s.state s.states.now (picture s.pixels.now s.counts.now) s.log.now) _ c.glass_log_lent-lengths.ensures c.in_default.ensures)

pub set_line-requires : goal.set_line-requires
set_line-requires c =
    let s = c.args in
    line_ready_then s.luts.now s.time s.asserted (with_glass_log s.state s.states.now (picture s.pixels.now s.counts.now) s.log.now) _ c.glass_log_lent-lengths.ensures c.in_default.ensures _
    (c.advance-present.ensures ∙ (λ i. advanced s.luts.now s.time (with_glass s.state s.states.now (picture s.pixels.now (c.in-Some.ensures.cases.same i)))))

pub returns : goal.returns
returns c =
    let s = c.args in
    line_moves s.luts.now s.time s.asserted (with_glass_log s.state s.states.now (picture s.pixels.now s.counts.now) s.log.now) _ c.glass_log_lent-lengths.ensures c.in_default.ensures _ _
    (c.advance-present.ensures ∙ (λ i. advanced s.luts.now s.time (with_glass s.state s.states.now (picture s.pixels.now (c.in-Some.ensures.cases.same i)))))
    (c.set_line.ensures
    ∙ (λ i. by_line s.luts.now s.asserted (with_glass_log c.advance-present.result c.advance-present.new.states (picture c.advance-present.new.pixels c.advance-present.new.counts) (c.in-Some-as_mut_array.ensures.cases.same i)) c.advance-present.result.bus.power))

pub returns-in-Err : goal.returns-in-Err
returns-in-Err c =
    let s = c.args in
    line_refused s.luts.now s.time s.asserted (with_glass_log s.state s.states.now (picture s.pixels.now s.counts.now) s.log.now) _ c.glass_log_lent-lengths.ensures _ c.in-Err.ensures

pub returns-in_default-as_mut_array : goal.returns-in_default-as_mut_array
returns-in_default-as_mut_array c =
    let s = c.args in
    let r = line_ready s.luts.now s.time s.asserted (with_glass_log s.state s.states.now (picture s.pixels.now s.counts.now) s.log.now) _ c.glass_log_lent-lengths.ensures c.in_default.ensures in
    elim (c.in_default-as_mut_array.ensures.cases r.counts_long) [ ]

pub returns-in_default-as_mut_array-2 : goal.returns-in_default-as_mut_array-2
returns-in_default-as_mut_array-2 c =
    let s = c.args in
    elim (c.in_default-as_mut_array-2.ensures.cases (line_log s.luts.now s.time s.asserted (with_glass_log s.state s.states.now (picture s.pixels.now s.counts.now) s.log.now) _ c.glass_log_lent-lengths.ensures c.in_default.ensures)) [ ]
