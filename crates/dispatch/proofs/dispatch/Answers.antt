-- `dispatch::dispatch` meets its contract: what the entry point ensures, put back into the whole.
use mathlib.Core.Path.{sym, ap, ◌∙◌}
use Rattle.counts.specs.Counts.{picture}
use Rattle.world.specs.World.{world, glass_in_world, glass_log_in_world, buffers_in_world, planes_in_world}
use Rattle.dispatch.specs.Dispatch.{tells, tells_read, dispatched}
use Rattle.dispatch.proofs.Bytes.{same_answer, same_state, no_byte}
use Rattle.dispatch.proofs.dispatch.Goals as goal

pub returns-in-Command : goal.returns-in-Command
unfolding dispatched
returns-in-Command c =
    let given = world c.args.state c.args.states.now c.args.luts.now (picture c.args.pixels.now c.args.counts.now) c.args.black_white.now c.args.red.now c.args.gates.now c.args.log.now in
    rw (c.silent.ensures, same_answer c.write_command.result, same_state c.write_command.result, no_byte c.write_command.result)
    (ap (tells buffers_in_world given) c.write_command.ensures ∙ ap (dispatched c.args.otp.now given) (sym c.in-Command.is))

pub returns-in-Data : goal.returns-in-Data
unfolding dispatched
returns-in-Data c =
    let given = world c.args.state c.args.states.now c.args.luts.now (picture c.args.pixels.now c.args.counts.now) c.args.black_white.now c.args.red.now c.args.gates.now c.args.log.now in
    rw (c.silent-in-Data.ensures, same_answer c.write_data.result, same_state c.write_data.result, no_byte c.write_data.result)
    (ap (tells planes_in_world given) c.write_data.ensures ∙ ap (dispatched c.args.otp.now given) (sym c.in-Data.is))

pub returns-in-Read : goal.returns-in-Read
unfolding dispatched
returns-in-Read c =
    let given = world c.args.state c.args.states.now c.args.luts.now (picture c.args.pixels.now c.args.counts.now) c.args.black_white.now c.args.red.now c.args.gates.now c.args.log.now in
    ap (tells_read given) c.read_data.ensures ∙ ap (dispatched c.args.otp.now given) (sym c.in-Read.is)

pub returns-in-Reset : goal.returns-in-Reset
unfolding dispatched
returns-in-Reset c =
    let given = world c.args.state c.args.states.now c.args.luts.now (picture c.args.pixels.now c.args.counts.now) c.args.black_white.now c.args.red.now c.args.gates.now c.args.log.now in
    rw (c.silent-in-Reset.ensures, same_answer c.set_reset.result, same_state c.set_reset.result, no_byte c.set_reset.result)
    (ap (tells glass_log_in_world given) c.set_reset.ensures ∙ ap (dispatched c.args.otp.now given) (sym c.in-Reset.is))

pub returns-in-Advance : goal.returns-in-Advance
unfolding dispatched
returns-in-Advance c =
    let given = world c.args.state c.args.states.now c.args.luts.now (picture c.args.pixels.now c.args.counts.now) c.args.black_white.now c.args.red.now c.args.gates.now c.args.log.now in
    rw (c.silent-in-Advance.ensures, same_answer c.advance.result, same_state c.advance.result, no_byte c.advance.result)
    (ap (tells glass_in_world given) c.advance.ensures ∙ ap (dispatched c.args.otp.now given) (sym c.in-Advance.is))
