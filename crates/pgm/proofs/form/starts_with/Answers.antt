-- `pgm::form::starts_with` meets its contract.
use mathlib.Core.Path.{◌∙◌}
use Rattle.pgm.proofs.Starts.{starts_pointwise}
use Rattle.pgm.proofs.form.starts_with.Goals as goal

pub returns : goal.returns
returns c = c.starts_with.ensures.value ∙ starts_pointwise c.args.front.now c.args.file.now
