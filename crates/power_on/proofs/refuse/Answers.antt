-- `power_on::refuse` meets its contract.
use mathlib.Core.Path.{ap}
use Rattle.device.specs.declared.Ssd1677.{Ssd1677}
use Rattle.power_on.specs.declared.RefusedStart.{RefusedStart}
use Rattle.power_on.specs.declared.StartError.{StartError}
use Rattle.power_on.proofs.refuse.Goals as goal

abbrev made : StartError → Ssd1677 → RefusedStart
made error d = record { error = error; state = d }

pub returns : goal.returns
returns c = ap (made c.args.error) c.unstarted-state.ensures
