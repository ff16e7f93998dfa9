use mathlib.Core.Path.{◌≡◌}
use Prim.Native.Nat.{◌-◌}
use lib.ListN.{length}
use Rattle.numbers.proofs.Painted.{Painted}
use Rattle.panel_start.proofs.fill_states.Given as goal

abbrev pub invariant-loop-i : goal.invariant-loop-i
invariant-loop-i l = Painted l.i (λ _. l.state) l.initial.states l.states × (l.i-end ≡ length l.initial.states)

abbrev pub decreases-loop-i : goal.decreases-loop-i
decreases-loop-i l = l.i-end - l.i
