-- `sheet_text::places::codes_at` meets its contract: the loop paints the codes from the front.
use native.Mathlib.Omega.{arith}
use Rattle.numbers.proofs.Painted.{painted_none, painted_more, painted_all}
use Rattle.sheet_text.proofs.places.codes_at.Goals as goal

pub loop-k-init : goal.loop-k-init
loop-k-init c = painted_none _ _

pub overflow_add-at : goal.overflow_add-at
overflow_add-at c = omega arith

pub overflow_add-at-in-loop-k : goal.overflow_add-at-in-loop-k
overflow_add-at-in-loop-k c = omega arith

pub digit_at-requires : goal.digit_at-requires
digit_at-requires c = tt

pub bounds-codes-k : goal.bounds-codes-k
bounds-codes-k c = omega arith

pub overflow_step-k : goal.overflow_step-k
overflow_step-k c = omega arith

pub loop-k-smaller : goal.loop-k-smaller
loop-k-smaller c = omega arith

pub loop-k-preserved : goal.loop-k-preserved
loop-k-preserved c = painted_more c.loop-k.invariant (omega arith) c.digit_at.ensures.digit

pub returns : goal.returns
returns c = painted_all c.loop-k.invariant (omega arith)
