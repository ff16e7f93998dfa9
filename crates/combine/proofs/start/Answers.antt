-- `combine::start` meets its contract. Assumes nothing.
use mathlib.Core.Path.{ap, ◌∙◌}
use Rattle.numbers.proofs.Lin.{back}
use Rattle.numbers.proofs.Cases.{passed}
use Rattle.glass.specs.Transfers.{identity_t}
use Rattle.combine.proofs.start.Goals as goal

pub returns : goal.returns
returns c = let s = c in passed _ _ _ _ c.if-once.false (c.identity.ensures ∙ ap identity_t (back s.ranges.swing))
