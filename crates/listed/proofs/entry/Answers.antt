-- `entry`: no bit above the three is set in a byte below 8.
use Prim.Native.Nat.{ℕ}
use lib.Dec.{eqb, ltb}
use lib.Bits.{bit_and}
use native.Mathlib.Omega.{arith}
use Rattle.listed.proofs.Masks.{agree}
use Rattle.listed.proofs.entry.Goals as goal

pub returns : goal.returns
returns c = agree (λ (b : ℕ). eqb (bit_and b 0xF8) 0) (λ (b : ℕ). ltb b 8) tt c.args.byte (omega arith)
