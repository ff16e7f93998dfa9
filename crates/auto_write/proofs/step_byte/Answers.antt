-- `step_byte`: the mask is the rest by 2.
use Prim.Native.Nat.{◌%◌}
use lib.Dec.{eqb}
use lib.Bits.{and_mask}
use Rattle.auto_write.specs.Auto.{step_byte}
use Rattle.auto_write.proofs.Checkerboard.{alike, unlike}
use Rattle.auto_write.proofs.step_byte.Goals as goal

pub returns-then-steps-first : goal.returns-then-steps-first
unfolding step_byte
returns-then-steps-first c = alike (eqb (c.args.steps % 2) 0) c.args.first (rw (and_mask c.args.steps 1) at c.if-steps-first.true)

pub returns-else-steps-first : goal.returns-else-steps-first
unfolding step_byte
returns-else-steps-first c = unlike (eqb (c.args.steps % 2) 0) c.args.first (rw (and_mask c.args.steps 1) at c.if-steps-first.false)
