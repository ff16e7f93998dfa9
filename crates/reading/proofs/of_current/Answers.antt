-- `reading::of_current` meets its contract.
use Rattle.std.specs.Prelude.{None}
use Rattle.reading.proofs.Cases.{is_idle, is_ignored, is_read, is_write, is_unsupported, is_reserved}
use Rattle.world.specs.World.{with_log}
use Rattle.reading.specs.Reading.{with_byte}
use Rattle.reading.proofs.of_current.Goals as goal

pub returns-in-Read : goal.returns-in-Read
returns-in-Read c = is_read c.args.black_white.now c.args.red.now (with_log c.args.state c.args.log.now) _ _ _ c.in-Active.is c.in-Read.is c.read_byte.ensures

pub returns-in-Write : goal.returns-in-Write
returns-in-Write c = is_write c.args.black_white.now c.args.red.now (with_log c.args.state c.args.log.now) _ _ _ c.in-Active.is _ c.in-Write.is c.read_nothing.ensures

pub returns-in-Unsupported : goal.returns-in-Unsupported
returns-in-Unsupported c = is_unsupported c.args.black_white.now c.args.red.now (with_log c.args.state c.args.log.now) _ _ _ c.in-Active.is c.in-Unsupported.is c.read_nothing-in-Unsupported.ensures

pub returns-in-Reserved : goal.returns-in-Reserved
returns-in-Reserved c = is_reserved c.args.black_white.now c.args.red.now (with_log c.args.state c.args.log.now) _ _ _ c.in-Active.is c.in-Reserved.is c.read_nothing-in-Reserved.ensures

pub returns-in-Idle : goal.returns-in-Idle
returns-in-Idle c = is_idle c.args.black_white.now c.args.red.now (with_log c.args.state c.args.log.now) (with_byte (with_log c.args.state c.args.log.now) None) _ c.in-Idle.is

pub returns-in-Ignoring : goal.returns-in-Ignoring
returns-in-Ignoring c = is_ignored c.args.black_white.now c.args.red.now (with_log c.args.state c.args.log.now) (with_byte (with_log c.args.state c.args.log.now) None) _ c.in-Ignoring.is
