-- `numbers::saturating_add_i64` meets its contract: the room left at the end that b points to tells whether the sum passes it.
use mathlib.Core.Path.{sym}
use lib.IntN.{◌+ℤ◌}
use Rattle.numbers.specs.Saturation.{least, most}
use Rattle.numbers.proofs.Lin.{whole, rd, ranged, back, add_out, sub_out, fits_is}
use Rattle.numbers.proofs.Hold.{clamp_low, clamp_high, held}
use Rattle.numbers.proofs.saturating_add_i64.Goals as goal

pub overflow_sub-b : goal.overflow_sub-b
overflow_sub-b c = let b = c.args.b in fits_is (omega (whole, ranged c.ranges.b, sub_out least (rd b)))

pub returns-then-a-b : goal.returns-then-a-b
returns-then-a-b c =
    let s = c.before.before in
    let a = s.args.a in
    let b = s.args.b in
    let fa = ranged s.ranges.a in
    let fb = ranged s.ranges.b in
    let fd = ranged (overflow_sub-b c.before) in
    sym (clamp_low (a +ℤ b) least most (omega (whole, add_out a b, sub_out least (rd b))))

pub overflow_add-result : goal.overflow_add-result
overflow_add-result c =
    let s = c.before.before in
    fits_is (omega (
      whole,
      ranged s.ranges.a,
      ranged s.ranges.b,
      add_out (rd s.args.a) (rd s.args.b),
      sub_out least (rd s.args.b),
      ranged (overflow_sub-b c.before),
    ))

pub returns-then-b-lt0 : goal.returns-then-b-lt0
returns-then-b-lt0 c = let s = c.before.before in held (overflow_add-result c) (λ i. back s.ranges.a i +ℤ back s.ranges.b i)

pub overflow_sub-b-2 : goal.overflow_sub-b-2
overflow_sub-b-2 c = let b = c.args.b in fits_is (omega (whole, ranged c.ranges.b, sub_out most (rd b)))

pub overflow_add-result-else-b-a : goal.overflow_add-result-else-b-a
overflow_add-result-else-b-a c =
    let s = c.before.before in
    fits_is (omega (
      whole,
      ranged s.ranges.a,
      ranged s.ranges.b,
      add_out (rd s.args.a) (rd s.args.b),
      sub_out most (rd s.args.b),
      ranged (overflow_sub-b-2 c.before),
    ))

pub returns-then-b-a : goal.returns-then-b-a
returns-then-b-a c =
    let s = c.before.before in
    let a = s.args.a in
    let b = s.args.b in
    let fa = ranged s.ranges.a in
    let fb = ranged s.ranges.b in
    let fd = ranged (overflow_sub-b-2 c.before) in
    sym (clamp_high (a +ℤ b) least most (omega (whole, add_out a b, sub_out most (rd b))) (omega (whole, add_out a b, sub_out most (rd b))))

pub returns-else-b-a : goal.returns-else-b-a
returns-else-b-a c = let s = c.before.before in held (overflow_add-result-else-b-a c) (λ i. back s.ranges.a i +ℤ back s.ranges.b i)
