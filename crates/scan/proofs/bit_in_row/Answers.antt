-- `scan::bit_in_row` meets its contract: the byte is in the plane, and the mask is the remainder by 2.
use lib.Bits.{and_mask}
use Rattle.numbers.specs.Choice.{bit_of}
use Rattle.scan.proofs.Pixels.{bit_there}
use Rattle.scan.proofs.bit_in_row.Goals as goal

pub returns : goal.returns
unfolding bit_of
returns c =
    let s = c in
    rw (bit_there s.args.plane.now s.args.source s.args.row s.requires.whole s.requires.driven s.requires.in_ram, and_mask _ 1)
