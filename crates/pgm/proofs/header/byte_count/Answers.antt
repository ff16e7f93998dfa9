-- `pgm::header::byte_count` meets its contract.
use native.Mathlib.Omega.{arith}
use Rattle.pgm.proofs.Headers.{header_length}
use Rattle.pgm.proofs.header.byte_count.Goals as goal

pub returns : goal.returns
returns c =
    let s = c.args in record { count = omega (arith, header_length s.width s.height, c.digit_count-2.ensures.count, c.digit_count.ensures.count); few = omega arith }
