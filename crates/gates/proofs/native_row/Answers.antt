-- `gates::native_row` meets its contract: what `ram_row_of_gate` answers, put into the definition.
use mathlib.Core.Path.{sym, ◌∙◌}
use Rattle.gates.specs.Gates.{native_row}
use Rattle.gates.proofs.native_row.Goals as goal

pub returns-in-Some : goal.returns-in-Some
unfolding native_row
returns-in-Some c = rw (← (sym c.in-Some.is ∙ c.ram_row_of_gate.ensures))

pub returns-in-None : goal.returns-in-None
unfolding native_row
returns-in-None c = rw (← (sym c.in-None.is ∙ c.ram_row_of_gate.ensures))
