-- `numbers::low_nibble`: the mask is the remainder by 16.
use lib.Bits.{and_mask}
use Rattle.numbers.proofs.low_nibble.Goals as goal

pub returns : goal.returns
returns c = and_mask c.args.byte 4
