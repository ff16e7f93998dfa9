-- `reading::read` meets its contract.
use Rattle.std.specs.Prelude.{None}
use Rattle.reading.proofs.Cases.{runs, sleeps, in_reset_is}
use Rattle.world.specs.World.{with_log}
use Rattle.reading.specs.Reading.{with_byte}
use Rattle.reading.proofs.read.Goals as goal

pub returns-in-Running : goal.returns-in-Running
returns-in-Running c = runs c.args.black_white.now c.args.red.now (with_log c.args.state c.args.log.now) _ _ c.in-Running.is c.of_current.ensures

pub returns-in-Asleep : goal.returns-in-Asleep
returns-in-Asleep c = sleeps c.args.black_white.now c.args.red.now (with_log c.args.state c.args.log.now) (with_byte (with_log c.args.state c.args.log.now) None) _ c.in-Asleep.is

pub returns-in-InReset : goal.returns-in-InReset
returns-in-InReset c = in_reset_is c.args.black_white.now c.args.red.now (with_log c.args.state c.args.log.now) (with_byte (with_log c.args.state c.args.log.now) None) _ c.in-InReset.is
