use mathlib.Core.Path.{◌≡◌}
use mathlib.Core.List.{List}
use Prim.Native.Nat.{ℕ}
use lib.ListN.{get_or}
use Rattle.waveform.specs.Phases.{joined}
use Rattle.column.specs.Columns.{natural, gathered}
use Rattle.sheet_text.specs.Text.{text_bytes}
use Rattle.sheet_text.proofs.lines.put_frames.Given as goal

abbrev pub text_in : List ℕ → ℕ → List ℕ
text_in frames phase = natural 4 (get_or frames phase 0)

abbrev pub invariant-loop-frames : goal.invariant-loop-frames
invariant-loop-frames l = l.text ≡ gathered text_bytes l.initial.text (joined l.frames-index (text_in l.frames-items))
