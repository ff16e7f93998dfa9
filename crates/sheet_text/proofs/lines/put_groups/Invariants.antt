use mathlib.Core.Path.{◌≡◌}
use mathlib.Core.List.{List}
use Prim.Native.Nat.{ℕ}
use Rattle.waveform.specs.Phases.{joined}
use Rattle.column.specs.Columns.{gathered}
use Rattle.drive_sheet.specs.declared.Sheet.{Sheet}
use Rattle.drive_sheet.specs.Bytes.{group_at}
use Rattle.sheet_text.specs.Text.{group_line, text_bytes}
use Rattle.sheet_text.proofs.lines.put_groups.Given as goal

abbrev pub text_in : Sheet → ℕ → List ℕ
text_in h number = group_line (group_at h number) number

abbrev pub invariant-loop-number : goal.invariant-loop-number
invariant-loop-number l = l.text ≡ gathered text_bytes l.initial.text (joined l.number (text_in l.sheet))
