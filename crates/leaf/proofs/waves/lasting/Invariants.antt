use Rattle.std.proofs.Common.{ℕ, Bool, eqb, List, get_or}
use Rattle.config.proofs.Lowest.{Passed}
use Rattle.leaf.proofs.waves.lasting.Given as goal

abbrev pub is_zero : List ℕ → ℕ → Bool
is_zero periods code = eqb (get_or periods code 0) 0

abbrev pub invariant-loop-i : goal.invariant-loop-i
invariant-loop-i l = Passed (is_zero l.periods) l.i
