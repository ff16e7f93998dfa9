-- `combine::groups::code_in` meets its contract. Assumes nothing.
use lib.Bits.{and_mask}
use Rattle.combine.proofs.groups.code_in.Goals as goal

pub returns : goal.returns
returns c = and_mask _ 2
