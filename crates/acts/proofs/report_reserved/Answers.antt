-- `acts::report_reserved` meets its contract.
use Rattle.acts.proofs.Cases.{reserves}
use Rattle.acts.proofs.report_reserved.Goals as goal

pub returns : goal.returns
returns c = reserves _ _ _ _ _ c.reserved-journal.ensures c.set_journal.ensures
