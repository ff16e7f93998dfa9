-- `hash::pattern` meets its contract.
use mathlib.Core.Path.{◌≡◌, refl, ap, ◌∙◌}
use native.Mathlib.Omega.{arith}
use lib.IntN.{ℤ, pos, negsuc}
use mir.Syntax.{w64}
use mir.Val.{of_z}
use Rattle.numbers.proofs.Lin.{back}
use Rattle.hash.specs.Hash.{pattern_of}
use Rattle.hash.proofs.pattern.Goals as goal

is : (z : ℤ) → of_z w64 z ≡ pattern_of z
is (pos n) = refl
is (negsuc n) = omega arith

pub returns : goal.returns
returns c = c.cast_unsigned.ensures ∙ ap (of_z w64) (back c.ranges.state) ∙ is c.args.state
