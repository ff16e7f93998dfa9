-- `numbers::saturating_neg_i64` meets its contract: only −2^63 has no negation.
use mathlib.Core.Path.{sym, ap, ◌∙◌}
use lib.Dec.{lit<}
use lib.IntN.{pos, neg_ℤ, +ℤ_idl}
use mir.Syntax.{w64}
use Rattle.numbers.specs.Saturation.{least, most}
use Rattle.numbers.proofs.Lin.{whole, rd, ranged, back, neg_out, sub_out, fits_is, same_bits, other_bits}
use Rattle.numbers.proofs.Hold.{clamp_high, held}
use Rattle.numbers.proofs.saturating_neg_i64.Goals as goal

pub overflow_sub-result : goal.overflow_sub-result
overflow_sub-result c =
    let a = c.args.a in
    fits_is (omega (whole, ranged c.ranges.a, sub_out (pos 0) (rd a), other_bits w64 a least c.if-a-eqminus9223372036854775808.false))

pub returns-then-a-eqminus9223372036854775808 : goal.returns-then-a-eqminus9223372036854775808
returns-then-a-eqminus9223372036854775808 c =
    let a = c.args.a in
    let e = same_bits {b = least} c.ranges.a (record { sfits = lit< tt }) c.if-a-eqminus9223372036854775808.true in
    sym (clamp_high (neg_ℤ a) least most (omega (whole, neg_out a)) (omega (whole, neg_out a)))

pub returns-else-a-eqminus9223372036854775808 : goal.returns-else-a-eqminus9223372036854775808
returns-else-a-eqminus9223372036854775808 c = held (overflow_sub-result c) (+ℤ_idl _ ∙ ap neg_ℤ (back c.ranges.a))
