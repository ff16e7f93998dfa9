-- `detection::hv_listed`: bits 7 and 3 by their mask.
use Prim.Native.Nat.{ℕ, ◌/◌, ◌%◌}
use mathlib.Core.Bool.{◌&&◌}
use lib.Dec.{eqb}
use lib.Bits.{bit_and}
use native.Mathlib.Omega.{arith}
use Rattle.listed.proofs.Masks.{agree}
use Rattle.detection.proofs.hv_listed.Goals as goal

pub returns : goal.returns
returns c = agree (λ (b : ℕ). eqb (bit_and b 0x88) 0) (λ (b : ℕ). eqb (b / 128) 0 && eqb (b / 8 % 2) 0) tt c.args.byte (omega arith)
