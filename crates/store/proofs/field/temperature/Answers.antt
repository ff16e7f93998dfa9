-- `field::temperature`: the byte above the low nibble, then the nibble under the byte.
use Prim.Native.Nat.{◌/◌, ◌%◌}
use borrow.Author.Tests.{eq-eqb, ne_eqb}
use native.Mathlib.Omega.{arith}
use lib.Bits.{and_high, or_shifted}
use Rattle.numbers.proofs.Fields.{put_high}
use Rattle.store.proofs.field.temperature.Goals as goal

pub returns-then-index-eq0 : goal.returns-then-index-eq0
returns-then-index-eq0 c =
    rw (eq-eqb c.args.index 0 c.if-index-eq0.true, put_high 4 16 c.args.held c.args.byte (omega arith))

pub returns : goal.returns
returns c =
    rw (
      ne_eqb c.args.index 0 c.if-index-eq0.false,
      and_high c.args.held 8 4,
      or_shifted (c.args.held / 16 % 256) 4 (c.args.byte / 16) (omega arith),
    )
