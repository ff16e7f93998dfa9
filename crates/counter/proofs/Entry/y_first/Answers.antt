-- `Entry::y_first`: a bit by its mask.
use Rattle.numbers.specs.Choice.{bit_of}
use Rattle.numbers.proofs.Fields.{test_bit}
use Rattle.counter.proofs.Entry.y_first.Goals as goal

pub returns : goal.returns
unfolding bit_of
returns c = test_bit 2 c.args.self.0
