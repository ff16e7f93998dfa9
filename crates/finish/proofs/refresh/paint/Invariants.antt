use mathlib.Core.List.{List}
use Prim.Native.Nat.{ℕ, ◌-◌, ◌<◌}
use lib.IntN.{ℤ, pos}
use lib.ListN.{get_or}
use Rattle.glass.specs.Greys.{gray_z}
use Rattle.glass_tables.specs.declared.Move.{Move}
use Rattle.glass_tables.specs.Moves.{Word, moved_by}
use Rattle.numbers.proofs.Painted.{Painted}
use Rattle.finish.specs.Moves.{move_at}
use Rattle.finish.proofs.refresh.paint.Given as goal

-- a pixel's state by the table
abbrev pub moved : List Move → List ℕ → List ℤ → ℕ → ℤ
moved ms luts states k = moved_by (move_at ms (get_or luts k 0)) (get_or states k (pos 0))

-- states that were read are numbers of 64 bits
abbrev pub Read : ℕ → List ℤ → Type 0
Read i states = (k : ℕ) → k < i → Word (get_or states k (pos 0))

abbrev pub invariant-loop-i : goal.invariant-loop-i
invariant-loop-i l =
    Painted l.i (moved l.moves l.luts l.initial.states) l.initial.states l.states
    × Painted l.i (λ k. gray_z (moved l.moves l.luts l.initial.states k) l.swing) l.initial.pixels l.pixels
    × Read l.i l.initial.states

abbrev pub decreases-loop-i : goal.decreases-loop-i
decreases-loop-i l = l.i-end - l.i
