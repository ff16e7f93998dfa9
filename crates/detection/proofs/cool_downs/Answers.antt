-- `detection::cool_downs`: the mask is the remainder by 8.
use Prim.Native.Nat.{◌/◌}
use lib.Bits.{and_mask}
use Rattle.detection.proofs.cool_downs.Goals as goal

pub returns : goal.returns
returns c = and_mask (c.args.byte / 16) 3
