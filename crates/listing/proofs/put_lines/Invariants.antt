use mathlib.Core.Path.{◌≡◌}
use mathlib.Core.List.{List}
use Prim.Native.Nat.{ℕ}
use lib.ListN.{get_or}
use Rattle.waveform.specs.declared.Waveform.{Waveform}
use Rattle.waveform.specs.Phases.{joined, no_group}
use Rattle.column.specs.Columns.{gathered}
use Rattle.listing.specs.Listing.{group_text, room}
use Rattle.listing.proofs.put_lines.Given as goal

abbrev pub text_in : Waveform → ℕ → List ℕ
text_in w number = group_text w.levels (get_or w.groups number no_group) number

abbrev pub invariant-loop-number : goal.invariant-loop-number
invariant-loop-number l = l.text ≡ gathered room l.initial.text (joined l.number (text_in l.waveform))
