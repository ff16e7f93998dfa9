-- `reading::read_nothing` meets its contract.
use mathlib.Core.Path.{refl}
use Rattle.data.proofs.Cases.{goes_on}
use Rattle.reading.proofs.Cases.{silent, tells}
use Rattle.world.specs.World.{with_log}
use Rattle.reading.proofs.read_nothing.Goals as goal

pub returns-then-active : goal.returns-then-active
returns-then-active c = silent c.args.active (with_log c.args.state c.args.log.now) _ c.if-active.true (goes_on c.args.state _ _ _ _ refl c.count-next.ensures c.go_on-state.ensures)

pub returns : goal.returns
returns c = tells c.args.active (with_log c.args.state c.args.log.now) _ _ c.if-active.false c.report-noted.ensures (goes_on c.report-noted.result _ _ _ _ refl c.count-next.ensures c.go_on-state-2.ensures)
