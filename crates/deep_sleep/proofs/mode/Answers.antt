-- `deep_sleep::mode`: the mask is the remainder by 4.
use lib.Bits.{and_mask}
use Rattle.deep_sleep.proofs.mode.Goals as goal

pub returns : goal.returns
returns c = and_mask c.args.byte 2
