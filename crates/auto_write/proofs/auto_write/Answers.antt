-- `auto_write`: after some rows and columns, all bytes before that place are written.
use mathlib.Core.Path.{ap}
use Prim.Native.Nat.{ℕ, ◌/◌}
use native.Mathlib.Omega.{arith}
use native.Mathlib.Nat.{div-le_self, add_assoc}
use Rattle.numbers.specs.Choice.{bit_of}
use Rattle.numbers.proofs.Fields.{test_bit}
use Rattle.numbers.proofs.Painted.{painted_none, painted_more, painted_again, painted_on, painted_at}
use Rattle.auto_write.specs.Auto.{width_of}
use Rattle.auto_write.proofs.Checkerboard.{height_pos, placed, written}
use Rattle.auto_write.proofs.auto_write.Goals as goal

pub step_height-height-requires : goal.step_height-height-requires
step_height-height-requires c = tt

pub loop-row-init : goal.loop-row-init
loop-row-init c = (painted_none _ _, omega arith)

pub nonzero_div-above : goal.nonzero_div-above
nonzero_div-above c = omega (arith, c.step_height-height.ensures, height_pos c.args.parameter)

pub loop-column-init : goal.loop-column-init
loop-column-init c = (painted_at (painted_again c.loop-row.invariant.0) (omega arith), omega arith)

pub steps_before-requires : goal.steps_before-requires
steps_before-requires c = c.loop-column-test.true

pub overflow_add-steps : goal.overflow_add-steps
overflow_add-steps c =
    omega (
      arith,
      c.steps_before.ensures,
      div-le_self c.loop-row.row c.step_height-height.result,
      div-le_self c.loop-column.column (width_of c.args.parameter),
    )

pub step_byte-requires : goal.step_byte-requires
step_byte-requires c = tt

pub overflow_mul-plane : goal.overflow_mul-plane
overflow_mul-plane c = omega arith

pub overflow_add-plane : goal.overflow_add-plane
overflow_add-plane c = omega arith

pub bounds-plane-row : goal.bounds-plane-row
bounds-plane-row c = omega arith

pub overflow_step-column : goal.overflow_step-column
overflow_step-column c = omega arith

pub loop-column-preserved : goal.loop-column-preserved
unfolding bit_of
loop-column-preserved c = (
  painted_at
      (painted_more c.loop-column.invariant.0 (omega arith)
      (placed c.args.parameter c.loop-row.row
      c.loop-column.column _ _ _ _ c.loop-column-test.true (test_bit 7 c.args.parameter)
      (ap (λ (h : ℕ). c.loop-row.row / h) c.step_height-height.ensures)
      c.steps_before.ensures
      c.step_byte.ensures))
      (add_assoc _ _ 1),
  omega arith,
)

pub overflow_step-row : goal.overflow_step-row
overflow_step-row c = omega arith

pub loop-row-preserved : goal.loop-row-preserved
loop-row-preserved c = (painted_on c.loop-row.invariant.0 c.loop-column.invariant.0 (omega arith) (omega arith), omega arith)

pub shape_of-plane : goal.shape_of-plane
shape_of-plane c = c.loop-row.invariant.0.long

pub returns : goal.returns
returns c = written _ _ _ _ c.loop-row.invariant.0 (omega arith)
