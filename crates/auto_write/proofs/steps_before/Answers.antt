-- `steps_before`: the shift is below 8.
use Prim.Native.Nat.{ℕ, ◌/◌, ◌^◌, ◌<◌}
use mathlib.Core.Path.{ap, ◌∙◌}
use native.Mathlib.Omega.{arith}
use mir.Facts.{Fits-mask}
use lib.Bits.{bit_and, and_mask, mask_lt}
use Rattle.auto_write.proofs.Checkerboard.{shifted}
use Rattle.auto_write.proofs.steps_before.Goals as goal

pub overflow_cast-result : goal.overflow_cast-result
overflow_cast-result c = Fits-mask c.args.parameter 3 tt

pub overflow_shr-result : goal.overflow_shr-result
overflow_shr-result c = let small : bit_and c.args.parameter 7 < 8 = mask_lt c.args.parameter 3 in omega arith

pub returns : goal.returns
returns c =
    ap (λ (k : ℕ). c.args.column / 2 ^ k) (and_mask c.args.parameter 3)
    ∙ shifted c.args.parameter c.args.column c.requires
