-- `fill`: every byte is the one given.
use mathlib.Core.Path.{◌∙◌}
use Rattle.numbers.proofs.Painted.{tab_same}
use Rattle.ram.proofs.fill.Goals as goal

pub returns : goal.returns
returns c = c.fill.ensures.after (λ y e. e) ∙ tab_same _ _
