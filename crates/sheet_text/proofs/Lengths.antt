-- How long the text of a sheet is, and what a text is answered with. Assumes nothing.
use Rattle.std.specs.Prelude.{Option, Some, None}
use mathlib.Core.Path.{◌≡◌}
use mathlib.Core.Bool.{Bool, true, false}
use Prim.Native.Nat.{ℕ, ◌≤◌}
use native.Mathlib.Omega.{arith}
use lib.Dec.{ltb}
use lib.ListN.{length, length-append, get_or, replicate}
use Rattle.numbers.specs.Choice.{pick}
use Rattle.numbers.proofs.Painted.{length_tab}
use Rattle.config.specs.Answer.{Answer, accepted, refused}
use Rattle.waveform.specs.declared.GroupCodes.{GroupCodes}
use Rattle.column.specs.Columns.{natural}
use Rattle.column.proofs.Symbols.{column_length}
use Rattle.listing.proofs.Joined.{same_length}
use Rattle.drive_sheet.specs.declared.Sheet.{Sheet}
use Rattle.drive_sheet.specs.Bytes.{group_at, code_at, setting_of}
use Rattle.drive_sheet.specs.Tests.{setting_length, written_of}
use Rattle.sheet_text.specs.Text.{digits_text, codes_text, frames_text, group_line, group_lines, gate_line, voltage_line, voltage_lines, sheet_text, text_bytes}
use Rattle.sheet_text.specs.Answer.{number_text, reply_text, digits_of, bad_line_text, setting_text, drawing_text}

codes_length : (g : GroupCodes) (lut : ℕ) → length (codes_text g lut) ≡ 5
unfolding codes_text digits_text
codes_length g lut =
    simp length-append (omega (arith, same_length 1 (λ phase. natural 1 (code_at g lut phase)) (λ i. column_length 1 _ _) 4))

frames_length : (g : GroupCodes) → length (frames_text g) ≡ 16
unfolding frames_text
frames_length g = same_length 4 (λ phase. natural 4 (get_or g.frames phase 0)) (λ i. column_length 4 _ _) 4

group_length : (g : GroupCodes) (number : ℕ) → length (group_line g number) ≡ 52
unfolding group_line
group_length g number =
    simp (length-append, column_length, frames_length g) (omega (arith, same_length 5 (codes_text g) (codes_length g) 5))

groups_length : (h : Sheet) → length (group_lines h) ≡ 520
unfolding group_lines
groups_length h = same_length 52 (λ number. group_line (group_at h number) number) (λ i. group_length (group_at h i) i) 10

pub sheet_length : (h : Sheet) → length (sheet_text h) ≡ text_bytes
unfolding sheet_text gate_line voltage_lines voltage_line
sheet_length h = simp (length-append, column_length, groups_length h)

-- ---- an answer
digits_few : (n : ℕ) → digits_of n ≤ 2
digits_few n = by (ltb n 10)
  where
    by : (b : Bool) → pick b 1 2 ≤ 2
    by true = omega arith
    by false = omega arith

reply_length : (h : Sheet) (a : Answer) → length (reply_text h a) ≤ setting_length
unfolding number_text setting_of
reply_length h accepted = omega (arith, length_tab {A = ℕ} 112)
reply_length h (refused number value) = simp (length-append, column_length) (omega arith)

pub drawing_length : (line : Option ℕ) (h : Sheet) → length (drawing_text line h) ≤ setting_length
unfolding setting_text bad_line_text
drawing_length None h = reply_length h (written_of h (replicate setting_length 0)).answer
drawing_length (Some line) h = simp (length-append, column_length) (omega (arith, digits_few line))
