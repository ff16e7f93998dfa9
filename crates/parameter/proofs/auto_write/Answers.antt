-- `parameter::auto_write` meets its contract.
use Rattle.parameter.proofs.Cases.{fills_red, fills_black_white}
use Rattle.world.specs.World.{with_ram}
use Rattle.parameter.proofs.auto_write.Goals as goal

pub returns-then-command-eq70 : goal.returns-then-command-eq70
returns-then-command-eq70 c = let s = c.args in fills_red s.command s.byte (with_ram s.state s.black_white.now s.red.now s.log.now) _ _ _ c.check_listed-noted.ensures c.busy_writing.ensures c.if-command-eq70.true c.auto_write.ensures

pub returns : goal.returns
returns c = let s = c.args in fills_black_white s.command s.byte (with_ram s.state s.black_white.now s.red.now s.log.now) _ _ _ c.check_listed-noted-2.ensures c.busy_writing-2.ensures c.if-command-eq70.false c.auto_write-2.ensures
