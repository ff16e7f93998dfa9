-- `diagnostic_log::reserved` meets its contract.
use Rattle.diagnostic.specs.Log.{reserved_reported}
use Rattle.diagnostic_log.proofs.reserved.Goals as goal

pub returns-then-journal : goal.returns-then-journal
unfolding reserved_reported
returns-then-journal c = rw c.if-journal.true

pub returns : goal.returns
unfolding reserved_reported
returns c = rw c.if-journal.false c.report.ensures
