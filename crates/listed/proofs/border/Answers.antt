-- `border`: bits 3 and 2 by their mask.
use Prim.Native.Nat.{ℕ, ◌/◌, ◌%◌}
use lib.Dec.{eqb}
use lib.Bits.{bit_and}
use native.Mathlib.Omega.{arith}
use Rattle.listed.proofs.Masks.{agree}
use Rattle.listed.proofs.border.Goals as goal

pub returns : goal.returns
returns c = agree (λ (b : ℕ). eqb (bit_and b 0x0C) 0) (λ (b : ℕ). eqb (b / 4 % 4) 0) tt c.args.byte (omega arith)
