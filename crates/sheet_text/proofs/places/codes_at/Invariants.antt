use Prim.Native.Nat.{ℕ, ◌+◌, ◌-◌, ◌/◌}
use mathlib.Core.List.{List}
use lib.ListN.{get_or}
use Rattle.numbers.proofs.Painted.{Painted}
use Rattle.sheet_text.proofs.places.codes_at.Given as goal

abbrev pub code_in : List ℕ → ℕ → ℕ → ℕ
code_in text at k = get_or text (at + k + k / 4) 0 - 48

abbrev pub invariant-loop-k : goal.invariant-loop-k
invariant-loop-k l = Painted l.k (code_in l.text l.at) l.initial.codes l.codes

abbrev pub decreases-loop-k : goal.decreases-loop-k
decreases-loop-k l = 20 - l.k
