-- `vcom_sense`: the high nibble is 4.
use Prim.Native.Nat.{ℕ, ◌/◌}
use mathlib.Core.Bool.{not, ◌&&◌}
use lib.Dec.{eqb}
use lib.Bits.{bit_and}
use native.Mathlib.Omega.{arith}
use Rattle.listed.proofs.Masks.{agree}
use Rattle.listed.proofs.vcom_sense.Goals as goal

pub returns : goal.returns
returns c = agree (λ (b : ℕ). eqb (bit_and b 0xB0) 0 && not (eqb (bit_and b 0x40) 0)) (λ (b : ℕ). eqb (b / 16) 4) tt c.args.byte (omega arith)
