-- `pin` meets its contract: by the level that the configuration has for busy.
use mathlib.Core.Path.{ap}
use mathlib.Core.Bool.{not}
use Rattle.numbers.proofs.Cases.{took, passed}
use Rattle.busy.specs.Busy.{pin_at}
use Rattle.busy.proofs.pin.Goals as goal

pub returns-then-config : goal.returns-then-config
unfolding pin_at
returns-then-config c = took _ _ _ _ c.if-config.true c.busy-is_busy.ensures

pub returns : goal.returns
unfolding pin_at
returns c = passed _ _ _ _ c.if-config.false (ap not c.busy-is_busy.ensures)
