-- `reading::read_ram` meets its contract.
use mathlib.Core.Path.{refl}
use Rattle.data.proofs.Cases.{goes_on}
use Rattle.reading.proofs.Cases.{dummy, reads_ram}
use Rattle.world.specs.World.{with_log}
use Rattle.reading.proofs.read_ram.Goals as goal

pub returns-then-active-eq0 : goal.returns-then-active-eq0
returns-then-active-eq0 c = dummy c.args.active (with_log c.args.state c.args.log.now) c.args.black_white.now c.args.red.now _ c.if-active-eq0.true (goes_on c.args.state _ _ _ _ refl c.count-next.ensures c.go_on-state.ensures)

pub returns : goal.returns
returns c = reads_ram c.args.active (with_log c.args.state c.args.log.now) c.args.black_white.now c.args.red.now _ _ c.if-active-eq0.false c.ram_byte-byte.ensures c.found.ensures
