-- `query::take_diagnostics` meets its contract.
use Rattle.query.proofs.Cases.{grants, refuses, takes}
use Rattle.query.specs.Queries.{diagnostics_taken}
use Rattle.query.proofs.take_diagnostics.Goals as goal

pub returns-in-Ok : goal.returns-in-Ok
unfolding diagnostics_taken
returns-in-Ok c = grants _ _ _ _ c.in-Ok.ensures (takes _ _ _ c.none_waiting.ensures c.set_journal-state.ensures)

pub returns-in-Err : goal.returns-in-Err
unfolding diagnostics_taken
returns-in-Err c = refuses _ _ _ _ c.in-Err.ensures
