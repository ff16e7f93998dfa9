-- The moves of a display's pixels: a table by LUT, which stands for `state_by` in the loop over the pixels.
use Rattle.std.specs.Prelude.{◌≡◌, List, ℕ, ◌<◌, ℤ, pos, ◌≤ℤ◌, get_or}
use Rattle.glass.specs.declared.Transfer.{Transfer}
use Rattle.glass_tables.specs.declared.Move.{Move}
use Rattle.glass_tables.specs.Moves.{Word, moved_by, Fitting}
use Rattle.panel.specs.Pixels.{state_by}
use Rattle.finish.specs.Refresh.{in_table}

-- the move that a table has for a LUT
abbrev pub move_at : List Move → ℕ → Move
move_at ms lut = get_or ms lut (record { lo = pos 0; hi = pos 0; add = pos 0 })

-- transfers with no upper bound below 0, which is what making their moves asks
abbrev pub Movable : List Transfer → Type 0
Movable ts = (lut : ℕ) → lut < 4 → pos 0 ≤ℤ (in_table ts lut).hi

-- a move for every byte, which does to a state of 64 bits what the transfer of that LUT does, or nothing
pub record MovesOf (ts : List Transfer) (ms : List Move) : Type 0 where
  pub fitting : (lut : ℕ) → lut < 256 → Fitting (move_at ms lut)
  pub does : (lut : ℕ) → lut < 256 → (x : ℤ) → Word x → moved_by (move_at ms lut) x ≡ state_by (in_table ts) lut x
