-- `scan::lut_of_bits` meets its contract: a bit counts 1 or 0.
use mathlib.Core.Path.{◌≡◌, refl}
use mathlib.Core.Bool.{Bool, true, false}
use Prim.Native.Nat.{◌+◌, ◌*◌, ◌≤◌}
use native.Mathlib.Omega.{arith}
use mir.Val.{bool_byte}
use Rattle.scan.specs.Luts.{lut_of_bits}
use Rattle.scan.proofs.lut_of_bits.Goals as goal

at_most_one : (b : Bool) → bool_byte b ≤ 1
at_most_one true = omega arith
at_most_one false = omega arith

number : (red black_white : Bool) → 2 * bool_byte red + bool_byte black_white ≡ lut_of_bits red black_white
unfolding lut_of_bits
number true true = refl
number true false = refl
number false true = refl
number false false = refl

pub overflow_mul-result : goal.overflow_mul-result
overflow_mul-result c = omega (arith, at_most_one c.args.red)

pub overflow_add-result : goal.overflow_add-result
overflow_add-result c = omega (arith, at_most_one c.args.red, at_most_one c.args.black_white)

pub returns : goal.returns
returns c = number c.args.red c.args.black_white
