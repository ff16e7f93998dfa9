-- `ten_bits`: the masks and shifts are the quotients and rests of the definition.
use Prim.Native.Nat.{ℕ, ◌+◌, ◌*◌, ◌/◌, ◌%◌, ◌<◌}
use mathlib.Core.Path.{ap, ◌∙◌}
use mir.Facts.{Fits-mask}
use lib.Bits.{bit_and, bit_or, mask_lt, and_mask, and_high, or_shifted}
use borrow.Author.Tests.{eq-eqb, ne_eqb}
use native.Mathlib.Omega.{arith}
use Rattle.numbers.proofs.Fields.{put_high}
use Rattle.counter.specs.Registers.{ten_bits}
use Rattle.counter.proofs.ten_bits.Goals as goal

pub overflow_cast-result-else-index-eq0 : goal.overflow_cast-result-else-index-eq0
overflow_cast-result-else-index-eq0 c = Fits-mask c.args.byte 2 tt

pub returns-then-index-eq0 : goal.returns-then-index-eq0
unfolding ten_bits
returns-then-index-eq0 c =
    rw (eq-eqb c.args.index 0 c.if-index-eq0.true)
    (ap (λ (x : ℕ). bit_or x c.args.byte) (and_high c.args.value 2 8)
    ∙ or_shifted (c.args.value / 256 % 4) 8 c.args.byte (omega arith))

pub returns-else-index-eq0 : goal.returns-else-index-eq0
unfolding ten_bits
returns-else-index-eq0 c =
    let small : bit_and c.args.byte 3 < 4 = mask_lt c.args.byte 2 in
    rw (ne_eqb c.args.index 0 c.if-index-eq0.false)
    (put_high 8 16 c.args.value (bit_and c.args.byte 3) (omega arith)
    ∙ ap (λ (x : ℕ). x * 256 + c.args.value % 256) (and_mask c.args.byte 2))
