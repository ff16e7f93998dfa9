-- `reading::read_register` meets its contract.
use mathlib.Core.Path.{refl}
use Rattle.data.proofs.Cases.{goes_on}
use Rattle.reading.proofs.Cases.{gives}
use Rattle.world.specs.World.{with_log}
use Rattle.reading.proofs.read_register.Goals as goal

pub returns : goal.returns
returns c = λ log. gives c.args.active (with_log c.args.state log) _ _ _ c.busy-busy.ensures c.read_register-byte.ensures (goes_on c.args.state _ _ _ _ refl c.count-next.ensures c.go_on-state.ensures)
