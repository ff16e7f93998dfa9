-- `reading::found` meets its contract.
use mathlib.Core.Path.{refl}
use Rattle.data.proofs.Cases.{goes_on}
use Rattle.reading.proofs.Cases.{finds, finds_none}
use Rattle.world.specs.World.{with_log}
use Rattle.reading.proofs.found.Goals as goal

pub returns-in-Some : goal.returns-in-Some
returns-in-Some c = finds c.args.active (with_log c.args.state c.args.log.now) _ _ _ _ c.in-Some.is c.step-moved.ensures (goes_on c.step-moved.result _ _ _ _ refl c.count-next.ensures c.go_on-state.ensures)

pub returns-in-None : goal.returns-in-None
returns-in-None c = finds_none c.args.active (with_log c.args.state c.args.log.now) _ _ _ _ c.in-None.is c.report_range-noted.ensures c.step-moved-in-None.ensures (goes_on c.step-moved-in-None.result _ _ _ _ refl c.count-next-in-None.ensures c.go_on-state-in-None.ensures)
