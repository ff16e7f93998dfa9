-- `reading::read_byte` meets its contract.
use Rattle.reading.proofs.Cases.{is_ram, is_register}
use Rattle.world.specs.World.{with_log}
use Rattle.reading.proofs.read_byte.Goals as goal

pub returns-then-active-eq39 : goal.returns-then-active-eq39
returns-then-active-eq39 c = is_ram c.args.active (with_log c.args.state c.args.log.now) c.args.black_white.now c.args.red.now _ c.if-active-eq39.true c.read_ram.ensures

pub returns : goal.returns
returns c = is_register c.args.active (with_log c.args.state c.args.log.now) c.args.black_white.now c.args.red.now _ c.if-active-eq39.false (c.read_register.ensures c.args.log.now)
