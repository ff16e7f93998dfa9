use mathlib.Core.Path.{◌≡◌}
use mathlib.Core.Bool.{Bool}
use mathlib.Core.List.{List}
use Prim.Native.Nat.{ℕ}
use lib.Dec.{ltb}
use lib.ListN.{get_or}
use Rattle.otp.specs.Search.{any_of}
use Rattle.charges.specs.Charge.{longest_period}
use Rattle.charges.proofs.has_long_period.Given as goal

abbrev pub isLong : List ℕ → ℕ → Bool
isLong periods code = ltb longest_period (get_or periods code 0)

abbrev pub invariant-loop-ns : goal.invariant-loop-ns
invariant-loop-ns l = (l.long ≡ any_of (isLong l.fn.frame_period) l.ns-index)
