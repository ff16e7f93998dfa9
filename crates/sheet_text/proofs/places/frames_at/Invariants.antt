use Prim.Native.Nat.{ℕ, ◌+◌, ◌-◌, ◌*◌, ◌%◌}
use mathlib.Core.List.{List}
use Rattle.numbers.proofs.Painted.{Painted}
use Rattle.sheet_text.specs.Reading.{value_at}
use Rattle.sheet_text.proofs.places.frames_at.Given as goal

abbrev pub framesIn : List ℕ → ℕ → ℕ → ℕ
framesIn text at phase = value_at text (at + 4 * phase) 4 % 256

abbrev pub invariant-loop-phase : goal.invariant-loop-phase
invariant-loop-phase l = Painted l.phase (framesIn l.text l.at) l.initial.frames l.frames

abbrev pub decreases-loop-phase : goal.decreases-loop-phase
decreases-loop-phase l = 4 - l.phase
