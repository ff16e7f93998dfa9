-- `glass::nearest` meets its contract. Assumes nothing.
use mathlib.Core.Path.{ap, ◌∙◌}
use Prim.Native.Nat.{ℕ, ◌+◌, ◌/◌}
use native.Mathlib.Omega.{arith}
use Rattle.numbers.proofs.Quot.{steps_lt, half}
use Rattle.glass.proofs.nearest.Goals as goal

pub overflow_add-result-else-swing-lt1048576 : goal.overflow_add-result-else-swing-lt1048576
overflow_add-result-else-swing-lt1048576 c = let s = c.before.before in record { fits = omega (arith, c.half_steps.ensures, steps_lt s.args.state s.args.swing s.requires.0) }

pub returns-else-swing-lt1048576 : goal.returns-else-swing-lt1048576
returns-else-swing-lt1048576 c = let s = c.before.before in ap (λ (n : ℕ). (n + 1) / 2) c.half_steps.ensures ∙ half s.args.state s.args.swing s.requires.0
