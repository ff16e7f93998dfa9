-- `chip::report` meets its contract.
use Rattle.chip.proofs.Cases.{logs}
use Rattle.chip.proofs.report.Goals as goal

pub returns : goal.returns
returns c = logs _ _ _ _ c.report-journal.ensures c.set_journal.ensures
