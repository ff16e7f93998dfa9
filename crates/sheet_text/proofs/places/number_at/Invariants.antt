use mathlib.Core.Path.{◌≡◌}
use mathlib.Core.List.{List}
use Prim.Native.Nat.{ℕ, ◌+◌}
use lib.ListN.{get_or}
use Rattle.numbers.specs.Lists.{tab}
use Rattle.column.specs.Reading.{value_of}
use Rattle.sheet_text.proofs.Values.{Bounded}
use Rattle.sheet_text.proofs.places.number_at.Given as goal

abbrev pub byteIn : List ℕ → ℕ → ℕ → ℕ
byteIn text at i = get_or text (at + i) 0

abbrev pub invariant-loop-i : goal.invariant-loop-i
invariant-loop-i l = ((l.n ≡ value_of (tab l.i (byteIn l.text l.at))) × Bounded l.i l.n)
