-- `detection::level`: the mask is the remainder by 8.
use lib.Bits.{and_mask}
use Rattle.detection.proofs.level.Goals as goal

pub returns : goal.returns
returns c = and_mask c.args.byte 3
