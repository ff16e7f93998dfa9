-- What `sheet` writes of a text (docs/drive-sheet.md; #104): the setting, the number of a refusal, or the line that is bad.
use Rattle.std.specs.Prelude.{List, [], ◌∷◌, ◌++◌, ℕ, ltb, replicate, Option, Some, None}
use Rattle.numbers.specs.Choice.{pick}
use Rattle.config.specs.Answer.{Answer, accepted, refused}
use Rattle.column.specs.Columns.{natural, line_end, Buffer, in_front}
use Rattle.drive_sheet.specs.declared.Sheet.{Sheet}
use Rattle.drive_sheet.specs.Bytes.{setting_of}
use Rattle.drive_sheet.specs.Tests.{setting_length, written_of}
use Rattle.sheet_text.specs.Reading.{sheet_in, bad_line_of}

-- a number in three columns
unfoldable pub number_text : ℕ → List ℕ
number_text number = natural 3 number ++ line_end

-- the setting where `write` accepts the sheet, else the number of the refusal
abbrev pub reply_text : Sheet → Answer → List ℕ
reply_text h accepted = setting_of h
reply_text h (refused number value) = number_text number

-- the digits of a line's number
abbrev pub digits_of : ℕ → ℕ
digits_of n = pick (ltb n 10) 1 2

-- `bad line N`
unfoldable pub bad_line_text : ℕ → List ℕ
bad_line_text n = (98 ∷ 97 ∷ 100 ∷ 32 ∷ 108 ∷ 105 ∷ 110 ∷ 101 ∷ 32 ∷ []) ++ natural (digits_of n) n ++ line_end

-- of a sheet, with 112 bytes to write to
unfoldable pub setting_text : Sheet → List ℕ
setting_text h = reply_text h (written_of h (replicate setting_length 0)).answer

-- the line that is bad, and where none is, what is answered of the sheet
abbrev pub drawing_text : Option ℕ → Sheet → List ℕ
drawing_text None h = setting_text h
drawing_text (Some line) h = bad_line_text line

-- of a text
unfoldable pub answer_text : List ℕ → List ℕ
answer_text text = drawing_text (bad_line_of text) (sheet_in text)

-- at the front of the bytes lent, and its length; where they are fewer than a setting's, nothing
unfoldable pub answered_in : List ℕ → List ℕ → Buffer
answered_in text out = in_front setting_length (answer_text text) out
