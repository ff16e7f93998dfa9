-- `numbers::to_i64` meets its contract: what passes the end stops there.
use mathlib.Core.Path.{refl, sym}
use native.Mathlib.Omega.{arith}
use lib.IntN.{pos}
use Rattle.numbers.specs.Saturation.{least, most}
use Rattle.numbers.proofs.Hold.{clamp_high, held}
use Rattle.numbers.proofs.to_i64.Goals as goal

pub returns-then-n-gt-LARGEST_I64 : goal.returns-then-n-gt-LARGEST_I64
returns-then-n-gt-LARGEST_I64 c = sym (clamp_high (pos c.args.n) least most (omega arith) (omega arith))

pub returns-else-n-gt-LARGEST_I64 : goal.returns-else-n-gt-LARGEST_I64
returns-else-n-gt-LARGEST_I64 c = held {z = pos c.args.n} (record { sfits = omega arith }) refl
