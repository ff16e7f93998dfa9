-- `sheet_text::places::frames_at` meets its contract: the loop paints the frames from the front.
use native.Mathlib.Omega.{arith}
use Rattle.numbers.proofs.Painted.{painted_none, painted_more, painted_all}
use Rattle.sheet_text.proofs.places.frames_at.Goals as goal

pub loop-phase-init : goal.loop-phase-init
loop-phase-init c = painted_none _ _

pub overflow_mul-phase : goal.overflow_mul-phase
overflow_mul-phase c = omega arith

pub overflow_add-at : goal.overflow_add-at
overflow_add-at c = omega arith

pub low_byte_at-requires : goal.low_byte_at-requires
low_byte_at-requires c = (omega arith, omega arith)

pub bounds-frames-phase : goal.bounds-frames-phase
bounds-frames-phase c = omega arith

pub overflow_step-phase : goal.overflow_step-phase
overflow_step-phase c = omega arith

pub loop-phase-smaller : goal.loop-phase-smaller
loop-phase-smaller c = omega arith

pub loop-phase-preserved : goal.loop-phase-preserved
loop-phase-preserved c = painted_more c.loop-phase.invariant (omega arith) c.low_byte_at.ensures

pub returns : goal.returns
returns c = painted_all c.loop-phase.invariant (omega arith)
