-- `high::write_data` meets its contract.
use mathlib.Core.Path.{◌∙◌}
use Rattle.clock.specs.Advance.{advanced}
use Rattle.data.specs.Data.{data_taken}
use Rattle.counts.specs.Counts.{picture}
use Rattle.world.specs.World.{with_ram, with_planes, with_glass}
use Rattle.data.proofs.Taken.{taken, not_taken, still_not}
use Rattle.high.proofs.Cases.{data_ready, data_log, data_moves, data_rests, data_refused}
use Rattle.high.proofs.write_data.Goals as goal

pub returns-in-Err : goal.returns-in-Err
returns-in-Err c =
    let a = c.args in
    let w = with_planes a.state a.states.now (picture a.pixels.now a.counts.now) a.black_white.now a.red.now a.log.now in
    data_refused a.luts.now a.time a.byte w _ c.planes_log_lent-lengths.ensures _ c.in-Err.ensures

pub returns-in-Some-stream : goal.returns-in-Some-stream
returns-in-Some-stream c =
    let a = c.args in
    let w = with_planes a.state a.states.now (picture a.pixels.now a.counts.now) a.black_white.now a.red.now a.log.now in
    let step = c.stream in
    rw (c.in-Some.ensures.cases.same, c.in-Some-as_mut_array.ensures.cases.same)
    (data_rests a.luts.now a.time a.byte w _ c.planes_log_lent-lengths.ensures c.in_default.ensures c.move_clock-moved.result _ (with_ram c.set_pointed.result _ _ a.log.now)
    c.move_clock-moved.ensures c.is_quiet.ensures c.if-is_quiet.true
    (taken a.byte c.move_clock-moved.result a.black_white.now a.red.now step.result _ _ step.ensures.done_value step.ensures.by_index _ _ a.log.now c.in-Some-stream.is c.set_pointed.ensures))

pub write_other-requires : goal.write_other-requires
write_other-requires c =
    let a = c.args in
    let step = c.stream in
    record { current_value = still_not a.byte c.move_clock-moved.result a.black_white.now a.red.now step.result step.new.black_white step.new.red step.ensures.done_value step.ensures.by_index c.in-None.is }

pub returns-in-None : goal.returns-in-None
returns-in-None c =
    let a = c.args in
    let w = with_planes a.state a.states.now (picture a.pixels.now a.counts.now) a.black_white.now a.red.now a.log.now in
    let step = c.stream in
    rw c.in-Some.ensures.cases.same
    (data_rests a.luts.now a.time a.byte w _ c.planes_log_lent-lengths.ensures c.in_default.ensures c.move_clock-moved.result _ _
    c.move_clock-moved.ensures c.is_quiet.ensures c.if-is_quiet.true
    (not_taken a.byte c.move_clock-moved.result a.black_white.now a.red.now step.result _ _ step.ensures.done_value step.ensures.by_index c.in-None.is _ _ c.write_other.ensures
    ∙ (λ i. data_taken a.byte (with_ram c.move_clock-moved.result a.black_white.now a.red.now (c.in-Some-as_mut_array.ensures.cases.same i)) c.move_clock-moved.result.bus.current)))

pub advance-present-requires : goal.advance-present-requires
advance-present-requires c =
    let a = c.args in
    let w = with_planes a.state a.states.now (picture a.pixels.now a.counts.now) a.black_white.now a.red.now a.log.now in
    rw c.in-Some.ensures.cases.same (data_ready a.luts.now a.time a.byte w _ c.planes_log_lent-lengths.ensures c.in_default.ensures)

pub returns : goal.returns
returns c =
    let a = c.args in
    let w = with_planes a.state a.states.now (picture a.pixels.now a.counts.now) a.black_white.now a.red.now a.log.now in
    data_moves a.luts.now a.time a.byte w _ c.planes_log_lent-lengths.ensures c.in_default.ensures _ _
    (c.advance-present.ensures ∙ (λ i. advanced a.luts.now a.time (with_glass a.state a.states.now (picture a.pixels.now (c.in-Some.ensures.cases.same i)))))
    (c.write.ensures ∙ (λ i. data_taken a.byte (with_ram c.advance-present.result a.black_white.now a.red.now (c.in-Some-as_mut_array.ensures.cases.same i)) c.advance-present.result.bus.current))

pub returns-in_default-as_mut_array : goal.returns-in_default-as_mut_array
returns-in_default-as_mut_array c =
    let a = c.args in
    let w = with_planes a.state a.states.now (picture a.pixels.now a.counts.now) a.black_white.now a.red.now a.log.now in
    let r = data_ready a.luts.now a.time a.byte w _ c.planes_log_lent-lengths.ensures c.in_default.ensures in
    elim (c.in_default-as_mut_array.ensures.cases r.counts_long) [ ]

pub returns-in_default-as_mut_array-2 : goal.returns-in_default-as_mut_array-2
returns-in_default-as_mut_array-2 c =
    let a = c.args in
    let w = with_planes a.state a.states.now (picture a.pixels.now a.counts.now) a.black_white.now a.red.now a.log.now in
    elim (c.in_default-as_mut_array-2.ensures.cases (data_log a.luts.now a.time a.byte w _ c.planes_log_lent-lengths.ensures c.in_default.ensures)) [ ]
