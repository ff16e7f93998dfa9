-- `two_bits`: no bit above the two is set in a byte below 4.
use Prim.Native.Nat.{ℕ}
use lib.Dec.{eqb, ltb}
use lib.Bits.{bit_and}
use native.Mathlib.Omega.{arith}
use Rattle.listed.proofs.Masks.{agree}
use Rattle.listed.proofs.two_bits.Goals as goal

pub returns : goal.returns
returns c = agree (λ (b : ℕ). eqb (bit_and b 0xFC) 0) (λ (b : ℕ). ltb b 4) tt c.args.byte (omega arith)
