-- `charges::sum::repeated` meets its contract: the product does not leave 64 bits.
use mathlib.Core.Path.{◌≡◌}
use Prim.Native.Nat.{◌≤◌}
use native.Mathlib.Omega.{arith}
use lib.IntN.{pos, nat_abs, ◌*ℤ◌}
use mir.Syntax.{w64}
use mir.Val.{to_z}
use Rattle.numbers.proofs.Lin.{rd, back}
use Rattle.charges.proofs.Bounds.{fits_as, read_back, counted, times_within}
use Rattle.charges.proofs.sum.repeated.Goals.{Start}
use Rattle.charges.proofs.sum.repeated.Goals as goal

product_is : (s : Start) → rd s.args.pass *ℤ to_z w64 s.args.repeats ≡ s.args.pass *ℤ pos s.args.repeats
product_is s = λ i. back s.ranges.pass i *ℤ counted s.args.repeats (omega (arith, s.requires.repeats)) i

small : (s : Start) → nat_abs (s.args.pass *ℤ pos s.args.repeats) ≤ 9223372036854775807
small s = omega (arith, times_within s.args.pass s.args.repeats s.requires.pass s.requires.repeats)

pub overflow_mul-result : goal.overflow_mul-result
overflow_mul-result c = fits_as (product_is c) (small c)

pub returns : goal.returns
returns c = read_back (product_is c) (small c)
