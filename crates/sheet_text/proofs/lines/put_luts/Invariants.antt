use mathlib.Core.Path.{◌≡◌}
use Rattle.waveform.specs.Phases.{joined}
use Rattle.column.specs.Columns.{gathered}
use Rattle.sheet_text.specs.Text.{codes_text, text_bytes}
use Rattle.sheet_text.proofs.lines.put_luts.Given as goal

abbrev pub invariant-loop-lut : goal.invariant-loop-lut
invariant-loop-lut l = l.text ≡ gathered text_bytes l.initial.text (joined l.lut (codes_text l.group))
