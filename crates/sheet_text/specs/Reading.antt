-- What a text says of a drive sheet (docs/drive-sheet.md; #104): the sheet of the numbers at their places, where writing that sheet gives
-- the text back, and otherwise the line in which it does not.
use Rattle.std.specs.Prelude.{Bool, List, [], ◌∷◌, ℕ, ◌+◌, ◌-◌, ◌*◌, ◌/◌, ◌%◌, eqb, ℤ, pos, neg_ℤ, get_or, Option, Some, None}
use Rattle.numbers.specs.Choice.{pick}
use Rattle.numbers.specs.Lists.{tab}
use Rattle.waveform.specs.declared.GroupCodes.{GroupCodes}
use Rattle.column.specs.Reading.{value_of}
use Rattle.otp.specs.Search.{any_of}
use Rattle.drive_sheet.specs.declared.Sheet.{Sheet}
use Rattle.sheet_text.specs.declared.Drawing.{Drawing}
use Rattle.sheet_text.specs.Text.{sheet_text}

-- the bytes of a column, 0 past the text's end
unfoldable pub column_at : List ℕ → ℕ → ℕ → List ℕ
column_at text at width = tab width (λ i. get_or text (at + i) 0)

-- the number of its digits; a blank and a minus count 0
abbrev pub value_at : List ℕ → ℕ → ℕ → ℕ
value_at text at width = value_of (column_at text at width)

-- a minus stands in the seven columns
abbrev pub minus_at : List ℕ → ℕ → Bool
minus_at text at = any_of (λ i. eqb (get_or text (at + i) 0) 45) 7

-- the whole number of seven columns
unfoldable pub whole_at : List ℕ → ℕ → ℤ
whole_at text at = pick (minus_at text at) (neg_ℤ (pos (value_at text at 7))) (pos (value_at text at 7))

-- the bytes of a group's line
abbrev pub line_bytes : ℕ
line_bytes = 52

-- a group's columns: frames from 3 on, repeats at 19, the frame rate at 23, and from 27 on four codes and a blank for each LUT
unfoldable pub group_drawn : List ℕ → ℕ → GroupCodes
group_drawn text number =
    record {
      frames = tab 4 (λ phase. value_at text (line_bytes * number + 3 + 4 * phase) 4 % 256);
      repeats = value_at text (line_bytes * number + 19) 4 % 65536;
      frame_rate = value_at text (line_bytes * number + 23) 3;
      codes = tab 20 (λ k. get_or text (line_bytes * number + 27 + k + k / 4) 0 - 48);
    }

-- the gate and the voltages stand in lines of 12 after ten groups, each after a name of four
unfoldable pub sheet_in : List ℕ → Sheet
sheet_in text =
    record {
      groups = tab 10 (group_drawn text);
      gate = value_at text 524 7 % 256;
      vsh1 = whole_at text 536;
      vsh2 = whole_at text 548;
      vsl = whole_at text 560;
      vcom = whole_at text 572;
    }

-- the line after a byte of line n
abbrev pub line_after : ℕ → ℕ → ℕ
line_after n byte = pick (eqb byte 10) (n + 1) n

-- the line, counted from n, in which a text first differs from another; none where it is the other
unfoldable pub differs_in : ℕ → List ℕ → List ℕ → Option ℕ
differs_in n [] [] = None
differs_in n [] (y ∷ ys) = Some n
differs_in n (x ∷ xs) [] = Some n
differs_in n (x ∷ xs) (y ∷ ys) = pick (eqb x y) (differs_in (line_after n x) xs ys) (Some n)

-- the first line of a text that no sheet that fits the columns has there, counted from 1; none where the text is such a sheet's
abbrev pub bad_line_of : List ℕ → Option ℕ
bad_line_of text = differs_in 1 text (sheet_text (sheet_in text))

-- what is read of a text
unfoldable pub drawing_of : List ℕ → Drawing
drawing_of text = record { bad_line = bad_line_of text; sheet = sheet_in text }
