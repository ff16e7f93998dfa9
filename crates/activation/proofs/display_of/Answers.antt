-- `activation::display_of` meets its contract.
use Rattle.activation.proofs.Cases.{displays}
use Rattle.activation.proofs.display_of.Goals as goal

pub returns : goal.returns
returns c = displays _ _ _ _ _ _ _ _ _ _ _ c.after-started.ensures c.saturating_add-whole.ensures c.after-ends.ensures c.kind_of-kind.ensures
