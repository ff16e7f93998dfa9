use mathlib.Core.Bool.{Bool}
use mathlib.Core.List.{List}
use Prim.Native.Nat.{ℕ, ◌≤◌}
use lib.Dec.{eqb}
use lib.ListN.{get_or}
use Rattle.config.proofs.Lowest.{Passed}
use Rattle.bench.proofs.asked.last.Given as goal

abbrev pub is_zero : List ℕ → ℕ → Bool
is_zero periods code = eqb (get_or periods code 0) 0

abbrev pub invariant-loop-code : goal.invariant-loop-code
invariant-loop-code l = (l.code ≤ 16) × Passed (is_zero l.periods) l.code
