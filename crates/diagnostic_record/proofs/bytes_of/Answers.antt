-- `diagnostic_record::bytes_of` meets its contract.
use Rattle.diagnostic.specs.Record.{record_of}
use Rattle.diagnostic_record.proofs.bytes_of.Goals as goal

pub returns : goal.returns
unfolding record_of
returns c = cc
