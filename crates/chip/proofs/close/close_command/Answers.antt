-- `chip::close::close_command` meets its contract.
use Rattle.chip.proofs.Cases.{closes}
use Rattle.chip.proofs.close.close_command.Goals as goal

pub returns : goal.returns
returns c = closes _ _ _ _ _ _ c.report_missing-reported.ensures c.fresh_command-journal.ensures c.set_journal-noted.ensures c.set_current-bus.ensures c.set_bus.ensures
