-- `step_height`: an entry of the table, at a place below 8.
use Prim.Native.Nat.{ℕ, ◌/◌, ◌<◌}
use mathlib.Core.Path.{ap}
use native.Mathlib.Omega.{arith}
use mir.Facts.{Fits-mask}
use lib.Bits.{bit_and, and_mask, mask_lt}
use lib.ListN.{get_or}
use Rattle.auto_write.specs.Auto.{heights, height_of}
use Rattle.auto_write.proofs.step_height.Goals as goal

pub overflow_cast-result : goal.overflow_cast-result
overflow_cast-result c = Fits-mask (c.args.parameter / 16) 3 tt

pub offset_bounds-parameter : goal.offset_bounds-parameter
offset_bounds-parameter c = let small : bit_and (c.args.parameter / 16) 7 < 8 = mask_lt (c.args.parameter / 16) 3 in omega arith

pub returns : goal.returns
unfolding height_of
returns c = ap (λ (i : ℕ). get_or heights i 0) (and_mask (c.args.parameter / 16) 3)
