use mathlib.Core.Path.{◌≡◌}
use mathlib.Core.Bool.{Bool}
use mathlib.Core.List.{List}
use Prim.Native.Nat.{ℕ, ◌+◌}
use lib.Dec.{eqb}
use lib.ListN.{get_or}
use Rattle.otp.specs.Search.{any_of}
use Rattle.sheet_text.proofs.places.minus_at.Given as goal

abbrev pub isMinus : List ℕ → ℕ → ℕ → Bool
isMinus text at i = eqb (get_or text (at + i) 0) 45

abbrev pub invariant-loop-i : goal.invariant-loop-i
invariant-loop-i l = (l.minus ≡ any_of (isMinus l.text l.at) l.i)
