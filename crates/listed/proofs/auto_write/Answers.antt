-- `auto_write`: bit 3 by its mask.
use Prim.Native.Nat.{ℕ, ◌/◌, ◌%◌}
use lib.Dec.{eqb}
use lib.Bits.{bit_and}
use native.Mathlib.Omega.{arith}
use Rattle.listed.proofs.Masks.{agree}
use Rattle.listed.proofs.auto_write.Goals as goal

pub returns : goal.returns
returns c = agree (λ (b : ℕ). eqb (bit_and b 0x08) 0) (λ (b : ℕ). eqb (b / 8 % 2) 0) tt c.args.byte (omega arith)
