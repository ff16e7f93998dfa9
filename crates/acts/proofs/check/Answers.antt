-- `acts::check` meets its contract.
use Rattle.acts.proofs.Cases.{checks, checks_not}
use Rattle.acts.proofs.check.Goals as goal

pub returns-then-is_listed : goal.returns-then-is_listed
returns-then-is_listed c = checks _ _ _ _ c.if-is_listed.true

pub returns : goal.returns
returns c = checks_not _ _ _ _ _ c.if-is_listed.false c.report_reserved.ensures
