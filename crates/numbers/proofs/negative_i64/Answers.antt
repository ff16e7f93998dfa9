-- `numbers::negative_i64` meets its contract.
use mathlib.Core.Path.{sym, ap, ◌∙◌}
use native.Mathlib.Omega.{arith}
use lib.IntN.{pos, neg_ℤ, +ℤ_idl}
use Rattle.numbers.specs.Saturation.{least, most}
use Rattle.numbers.proofs.Lin.{whole, rd, ranged, back, sub_out, neg_out, fits_is}
use Rattle.numbers.proofs.Hold.{clamp_low', held}
use Rattle.numbers.proofs.negative_i64.Goals as goal

pub overflow_cast-result : goal.overflow_cast-result
overflow_cast-result c = record { sfits = omega arith }

pub overflow_sub-result : goal.overflow_sub-result
overflow_sub-result c = let p = pos c.args.n in fits_is (omega (whole, ranged {z = p} (overflow_cast-result c), sub_out (pos 0) (rd p)))

pub returns-then-n-gt-LARGEST_I64 : goal.returns-then-n-gt-LARGEST_I64
returns-then-n-gt-LARGEST_I64 c =
    let p = pos c.args.n in
    sym (clamp_low' (neg_ℤ p) least most (omega (whole, neg_out p)) (omega arith))

pub returns-else-n-gt-LARGEST_I64 : goal.returns-else-n-gt-LARGEST_I64
returns-else-n-gt-LARGEST_I64 c = held (overflow_sub-result c) (+ℤ_idl _ ∙ ap neg_ℤ (back {z = pos c.args.n} (overflow_cast-result c)))
