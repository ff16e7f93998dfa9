use mathlib.Core.Path.{◌≡◌}
use mathlib.Core.List.{List}
use Prim.Native.Nat.{ℕ}
use Rattle.waveform.specs.declared.GroupCodes.{GroupCodes}
use Rattle.waveform.specs.Phases.{joined}
use Rattle.column.specs.Columns.{natural, gathered}
use Rattle.drive_sheet.specs.Bytes.{code_at}
use Rattle.sheet_text.specs.Text.{text_bytes}
use Rattle.sheet_text.proofs.lines.put_codes.Given as goal

abbrev pub text_in : GroupCodes → ℕ → ℕ → List ℕ
text_in g lut phase = natural 1 (code_at g lut phase)

abbrev pub invariant-loop-code : goal.invariant-loop-code
invariant-loop-code l = l.text ≡ gathered text_bytes l.initial.text (joined l.code-index (text_in l.fn.group l.fn.lut))
