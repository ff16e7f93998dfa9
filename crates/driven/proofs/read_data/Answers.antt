-- `driven::read_data` meets its contract.
use mathlib.Core.Path.{◌∙◌}
use Rattle.clock.specs.Advance.{advanced}
use Rattle.reading.specs.Reading.{read_taken}
use Rattle.counts.specs.Counts.{picture}
use Rattle.world.specs.World.{with_glass_log, with_glass, with_log}
use Rattle.driven.proofs.Cases.{read_ready, read_log, read_moves, read_refused}
use Rattle.driven.proofs.read_data.Goals as goal

pub advance-present-requires : goal.advance-present-requires
advance-present-requires c =
    let s = c.args in
    let given = with_glass_log s.state s.states.now (picture s.pixels.now s.counts.now) s.log.now in
    rw c.in-Some.ensures.cases.same (read_ready s.luts.now s.black_white.now s.red.now s.time given _ c.planes_log_lent-lengths.ensures c.in_default.ensures)

pub returns : goal.returns
returns c =
    let s = c.args in
    let given = with_glass_log s.state s.states.now (picture s.pixels.now s.counts.now) s.log.now in
    read_moves s.luts.now s.black_white.now s.red.now s.time given _ c.planes_log_lent-lengths.ensures c.in_default.ensures _ _
    (c.advance-present.ensures ∙ (λ i. advanced s.luts.now s.time (with_glass s.state s.states.now (picture s.pixels.now (c.in-Some.ensures.cases.same i)))))
    (c.read.ensures ∙ (λ i. read_taken s.black_white.now s.red.now (with_log c.advance-present.result (c.in-Some-as_mut_array.ensures.cases.same i)) c.advance-present.result.bus.power))

pub returns-in-Err : goal.returns-in-Err
returns-in-Err c =
    let s = c.args in
    let given = with_glass_log s.state s.states.now (picture s.pixels.now s.counts.now) s.log.now in
    read_refused s.luts.now s.black_white.now s.red.now s.time given _ c.planes_log_lent-lengths.ensures _ c.in-Err.ensures

pub returns-in_default-as_mut_array : goal.returns-in_default-as_mut_array
returns-in_default-as_mut_array c =
    let s = c.args in
    let given = with_glass_log s.state s.states.now (picture s.pixels.now s.counts.now) s.log.now in
    let r = read_ready s.luts.now s.black_white.now s.red.now s.time given _ c.planes_log_lent-lengths.ensures c.in_default.ensures in
    elim (c.in_default-as_mut_array.ensures.cases r.counts_long) [ ]

pub returns-in_default-as_mut_array-2 : goal.returns-in_default-as_mut_array-2
returns-in_default-as_mut_array-2 c =
    let s = c.args in
    let given = with_glass_log s.state s.states.now (picture s.pixels.now s.counts.now) s.log.now in
    elim (c.in_default-as_mut_array-2.ensures.cases (read_log s.luts.now s.black_white.now s.red.now s.time given _ c.planes_log_lent-lengths.ensures c.in_default.ensures)) [ ]
