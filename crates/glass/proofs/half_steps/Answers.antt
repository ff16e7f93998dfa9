-- `glass::half_steps` meets its contract. Assumes nothing.
use native.Mathlib.Omega.{arith}
use Rattle.numbers.proofs.Quot.{cross_le, rem_small, steps_yes, steps_no, steps_pos}
use Rattle.glass.proofs.half_steps.Goals as goal

pub overflow_mul-steps : goal.overflow_mul-steps
overflow_mul-steps c = record { fits = omega (arith, cross_le c.args.state c.args.swing c.requires.0 c.requires.1) }

pub overflow_mul-left : goal.overflow_mul-left
overflow_mul-left c = record { fits = omega (arith, rem_small c.args.state c.args.swing c.requires.0 c.requires.1) }

pub overflow_sub-result : goal.overflow_sub-result
overflow_sub-result c = let s = c.before in steps_pos s.args.state s.args.swing s.requires.0 s.requires.1 c.if-steps-rest.false

pub returns-then-steps-rest : goal.returns-then-steps-rest
returns-then-steps-rest c = let s = c.before in steps_yes s.args.state s.args.swing s.requires.0 s.requires.1 c.if-steps-rest.true

pub returns-else-steps-rest : goal.returns-else-steps-rest
returns-else-steps-rest c = let s = c.before in steps_no s.args.state s.args.swing s.requires.0 s.requires.1 c.if-steps-rest.false
