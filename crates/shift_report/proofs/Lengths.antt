-- How long a report is: at most four lines of 28 bytes. Assumes nothing.
use mathlib.Core.Path.{◌≡◌}
use Prim.Native.Nat.{ℕ, ◌≤◌}
use native.Mathlib.Omega.{arith}
use lib.ListN.{length, length-append}
use Rattle.column.proofs.Symbols.{column_length}
use Rattle.voltage_shift.specs.declared.Shift.{Shift}
use Rattle.voltage_shift.specs.Bounds.{ShiftAnswer, shifting, refusing}
use Rattle.shift_report.specs.Report.{shift_line, shift_lines, number_line, shift_text, lines_room}

line_length : (lut : ℕ) (x : Shift) → length (shift_line lut x) ≡ 28
unfolding shift_line
line_length lut x = simp (length-append, column_length)

pub text_length : (a : ShiftAnswer) → length (shift_text a) ≤ lines_room
unfolding shift_text shift_lines number_line
text_length (shifting b) = simp (length-append, line_length) (omega arith)
text_length (refusing a) = simp (length-append, column_length) (omega arith)
