-- `diagnostic_record::byte_at` meets its contract.
use Prim.Native.Nat.{◌/◌, ◌*◌, ◌^◌}
use mir.Facts.{Fits-mask}
use lib.Bits.{and_mask}
use Rattle.diagnostic_record.proofs.byte_at.Goals as goal

pub overflow_cast-result : goal.overflow_cast-result
overflow_cast-result c = Fits-mask (c.args.x / 2 ^ (8 * c.args.k)) 8 tt

pub returns : goal.returns
returns c = and_mask (c.args.x / 2 ^ (8 * c.args.k)) 8
