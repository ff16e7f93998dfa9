-- `unsupported_names::name` meets its contract: a text copied over the front of zeros.
use Rattle.diagnostic.proofs.Over.{padding}
use Rattle.unsupported_names.proofs.name.Goals as goal

pub returns : goal.returns
returns c = λ i. record { bytes = padding c.args.text.now _ 44 0 c.requires c.copy-length.ensures.front i; length = c.copy-length.ensures.count i }
