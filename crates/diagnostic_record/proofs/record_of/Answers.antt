-- `diagnostic_record::record_of` meets its contract.
use mathlib.Core.Path.{ap, ◌∙◌}
use Rattle.diagnostic.specs.Record.{record_of}
use Rattle.diagnostic_record.proofs.record_of.Goals as goal

pub returns : goal.returns
returns c = c.bytes_of.ensures ∙ ap (record_of _) c.fields.ensures
