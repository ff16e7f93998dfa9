-- `read_ram`: no bit above the first is set in a byte below 2.
use Prim.Native.Nat.{ℕ}
use lib.Dec.{eqb, ltb}
use lib.Bits.{bit_and}
use native.Mathlib.Omega.{arith}
use Rattle.listed.proofs.Masks.{agree}
use Rattle.listed.proofs.read_ram.Goals as goal

pub returns : goal.returns
returns c = agree (λ (b : ℕ). eqb (bit_and b 0xFE) 0) (λ (b : ℕ). ltb b 2) tt c.args.byte (omega arith)
