-- `parameter::parameter` meets its contract: by the command.
use Rattle.parameter.proofs.Cases.{sleeps, readies, senses, fills_0x46, fills_0x47, takes}
use Rattle.world.specs.World.{with_ram}
use Rattle.parameter.proofs.parameter.Goals as goal

pub returns-in-16 : goal.returns-in-16
returns-in-16 c = let s = c.args in sleeps s.command s.index s.byte (with_ram s.state s.black_white.now s.red.now s.log.now) _ c.in-16.is c.deep_sleep.ensures

pub returns-in-20 : goal.returns-in-20
returns-in-20 c = let s = c.args in readies s.command s.index s.byte (with_ram s.state s.black_white.now s.red.now s.log.now) _ c.in-20.is c.hv_ready_detection.ensures

pub returns-in-21 : goal.returns-in-21
returns-in-21 c = let s = c.args in senses s.command s.index s.byte (with_ram s.state s.black_white.now s.red.now s.log.now) _ c.in-21.is c.vci_detection.ensures

pub returns-in-70 : goal.returns-in-70
returns-in-70 c = let s = c.args in fills_0x46 s.command s.index s.byte (with_ram s.state s.black_white.now s.red.now s.log.now) _ c.in-70.is c.auto_write.ensures

pub returns-in-71 : goal.returns-in-71
returns-in-71 c = let s = c.args in fills_0x47 s.command s.index s.byte (with_ram s.state s.black_white.now s.red.now s.log.now) _ c.in-71.is c.auto_write-in-71.ensures

pub returns-in_default : goal.returns-in_default
returns-in_default c = let s = c.args in let h = c.in_default.in_default-own.rest in takes s.command s.index s.byte (with_ram s.state s.black_white.now s.red.now s.log.now) _ h.0.0.0.0.1 h.0.0.0.1 h.0.0.1 h.0.1 h.1 c.register_byte.ensures
