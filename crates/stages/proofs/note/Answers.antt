-- `stages::note` meets its contract.
use Rattle.stages.proofs.Cases.{notes}
use Rattle.stages.proofs.note.Goals as goal

pub returns : goal.returns
returns c = notes _ _ _ _ c.report-journal.ensures
