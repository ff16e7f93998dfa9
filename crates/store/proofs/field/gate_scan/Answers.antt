-- `field::gate_scan`: the two scan bits by their masks.
use borrow.Author.Tests.{le-ltb}
use native.Mathlib.Omega.{arith}
use Rattle.numbers.specs.Choice.{bit_of}
use Rattle.numbers.proofs.Fields.{test_bit}
use Rattle.store.proofs.field.gate_scan.Goals as goal

pub returns : goal.returns
unfolding bit_of
returns c = rw (le-ltb c.args.index 2 (omega arith), test_bit 1 c.args.byte, test_bit 2 c.args.byte)
