-- `detection::vci_listed`: no bit above the three is set in a byte below 8.
use Prim.Native.Nat.{ℕ}
use mathlib.Core.Bool.{◌&&◌}
use lib.Dec.{eqb, leb, ltb}
use lib.Bits.{bit_and}
use native.Mathlib.Omega.{arith}
use Rattle.listed.proofs.Masks.{agree}
use Rattle.detection.proofs.vci_listed.Goals as goal

pub returns : goal.returns
returns c = agree (λ (b : ℕ). leb 3 b && eqb (bit_and b 0xF8) 0) (λ (b : ℕ). leb 3 b && ltb b 8) tt c.args.byte (omega arith)
