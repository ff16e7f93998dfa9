-- `Entry::x_increments`: a bit by its mask.
use Rattle.numbers.specs.Choice.{bit_of}
use Rattle.numbers.proofs.Fields.{test_bit}
use Rattle.counter.proofs.Entry.x_increments.Goals as goal

pub returns : goal.returns
unfolding bit_of
returns c = test_bit 0 c.args.self.0
