-- `pgm::header::put_decimal` meets its contract.
use Rattle.pgm.proofs.Headers.{in_decimal}
use Rattle.pgm.proofs.header.put_decimal.Goals as goal

pub returns : goal.returns
returns c = in_decimal c.args.header.now c.args.n c.put_number.ensures c.digit_count.ensures.count c.from.ensures
