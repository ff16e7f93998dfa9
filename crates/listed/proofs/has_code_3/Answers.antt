-- `has_code_3`: the four codes by shift and mask.
use Prim.Native.Nat.{ℕ, ◌/◌}
use mathlib.Core.Bool.{◌||◌}
use lib.Dec.{eqb}
use lib.Bits.{bit_and}
use Rattle.listed.specs.Listed.{has_code3}
use native.Mathlib.Omega.{arith}
use Rattle.listed.proofs.Masks.{agree}
use Rattle.listed.proofs.has_code_3.Goals as goal

pub returns : goal.returns
returns c = agree (λ (b : ℕ). ((eqb (bit_and b 3) 3 || eqb (bit_and (b / 4) 3) 3) || eqb (bit_and (b / 16) 3) 3) || eqb (bit_and (b / 64) 3) 3) (λ (b : ℕ). has_code3 b) tt c.args.byte (omega arith)
