-- `low::write_command` meets its contract.
use mathlib.Core.Path.{◌∙◌}
use Rattle.low.specs.Command.{command_taken}
use Rattle.counts.specs.Counts.{picture}
use Rattle.world.specs.World.{with_buffers, lent}
use Rattle.low.proofs.Cases.{command_activatable, command_log, command_moves, command_refused}
use Rattle.low.proofs.write_command.Goals as goal

pub take_command-requires : goal.take_command-requires
take_command-requires c =
    let s = c.args in
    let kept = lent s.black_white.now s.red.now s.gates.now s.otp.now in
    let given = with_buffers s.state s.states.now s.luts.now (picture s.pixels.now s.counts.now) s.log.now in
    rw c.in-Some.ensures.cases.same (command_activatable kept s.time s.command given _ c.all_lent-lengths.ensures c.in_default.ensures)

pub returns : goal.returns
returns c =
    let s = c.args in
    let kept = lent s.black_white.now s.red.now s.gates.now s.otp.now in
    let given = with_buffers s.state s.states.now s.luts.now (picture s.pixels.now s.counts.now) s.log.now in
    command_moves kept s.time s.command given _ c.all_lent-lengths.ensures c.in_default.ensures _
    (c.take_command.ensures ∙ (λ i. command_taken kept s.time s.command (with_buffers s.state s.states.now s.luts.now (picture s.pixels.now (c.in-Some.ensures.cases.same i)) (c.in-Some-as_mut_array.ensures.cases.same i))))

pub returns-in-Err : goal.returns-in-Err
returns-in-Err c =
    let s = c.args in
    let kept = lent s.black_white.now s.red.now s.gates.now s.otp.now in
    let given = with_buffers s.state s.states.now s.luts.now (picture s.pixels.now s.counts.now) s.log.now in
    command_refused kept s.time s.command given _ c.all_lent-lengths.ensures _ c.in-Err.ensures

pub returns-in_default-as_mut_array : goal.returns-in_default-as_mut_array
returns-in_default-as_mut_array c =
    let s = c.args in
    let kept = lent s.black_white.now s.red.now s.gates.now s.otp.now in
    let given = with_buffers s.state s.states.now s.luts.now (picture s.pixels.now s.counts.now) s.log.now in
    let r = command_activatable kept s.time s.command given _ c.all_lent-lengths.ensures c.in_default.ensures in
    elim (c.in_default-as_mut_array.ensures.cases r.ready.counts_long) [ ]

pub returns-in_default-as_mut_array-2 : goal.returns-in_default-as_mut_array-2
returns-in_default-as_mut_array-2 c =
    let s = c.args in
    let kept = lent s.black_white.now s.red.now s.gates.now s.otp.now in
    let given = with_buffers s.state s.states.now s.luts.now (picture s.pixels.now s.counts.now) s.log.now in
    elim (c.in_default-as_mut_array-2.ensures.cases (command_log kept s.time s.command given _ c.all_lent-lengths.ensures c.in_default.ensures)) [ ]
