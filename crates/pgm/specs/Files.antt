-- What writing and reading a picture leave: the answer and the lent buffer; 71, 72, 73, in this order (#109; SCOPE, Pictures).
use Rattle.std.specs.Prelude.{not, List, ◌++◌, ℕ, ◌*◌, Result, Ok, Err, eqb, ltb, length, drop}
use Rattle.numbers.specs.Choice.{pick}
use Rattle.pgm.specs.declared.PgmError.{PgmError}
use Rattle.pgm.specs.declared.PgmError.TheVariants.{Form, Count, Room}
use Rattle.pgm.specs.declared.form.Size.{Size}
use Rattle.pgm.specs.Form.{in_range, pgm_header, pgm_file, is_header, width_in, height_in, pixels_in}

-- the request's number of a refusal
abbrev pub pgm_number : PgmError → ℕ
pgm_number Form = 71
pgm_number Count = 72
pgm_number Room = 73

-- an answer, and the lent buffer as it is left
pub record Answered (A : Type 0) : Type 0 where
  pub answer : A
  pub out : List ℕ

-- the two as one
abbrev pub answered : {A : Type 0} → A → List ℕ → Answered A
answered answer out = record { answer = answer; out = out }

-- a text over the front of a buffer: what lies past it stays
abbrev pub over_front : List ℕ → List ℕ → List ℕ
over_front text out = text ++ drop (length text) out

-- a file of so many bytes is written
abbrev pub file_of : ℕ → Result ℕ PgmError
file_of bytes = Ok bytes

-- a refusal answers no length
abbrev pub no_file : PgmError → Result ℕ PgmError
no_file error = Err error

-- and leaves the buffer alone
abbrev pub not_written : PgmError → List ℕ → Answered (Result ℕ PgmError)
not_written error out = answered (no_file error) out

-- the text at the front of the buffer, where there is room for it; 73 else
abbrev pub text_written : List ℕ → List ℕ → Answered (Result ℕ PgmError)
text_written text out =
    pick (ltb (length out) (length text)) (not_written Room out)
    (answered (file_of (length text)) (over_front text out))

-- the file of a picture: 71 for its size, 72 for its grey bytes, 73 for the buffer
unfoldable pub file_written : ℕ → ℕ → List ℕ → List ℕ → Answered (Result ℕ PgmError)
file_written w h pixels out =
    pick (not (in_range w h)) (not_written Form out)
    (pick (not (eqb (length pixels) (w * h))) (not_written Count out)
    (text_written (pgm_file w h pixels) out))

-- its header alone: 71 and 73
unfoldable pub header_written : ℕ → ℕ → List ℕ → Answered (Result ℕ PgmError)
header_written w h out = pick (not (in_range w h)) (not_written Form out) (text_written (pgm_header w h) out)

-- a picture of a size is read
abbrev pub picture_of : ℕ → ℕ → Result Size PgmError
picture_of w h = Ok (record { width = w; height = h })

-- a refusal answers no size
abbrev pub no_picture : PgmError → Result Size PgmError
no_picture error = Err error

-- and leaves the buffer alone
abbrev pub not_read : PgmError → List ℕ → Answered (Result Size PgmError)
not_read error out = answered (no_picture error) out

-- the picture of a file: 71 for its header, 72 for its grey bytes, 73 for the buffer
unfoldable pub file_read : List ℕ → List ℕ → Answered (Result Size PgmError)
file_read f out =
    pick (not (is_header f)) (not_read Form out)
    (pick (not (eqb (length (pixels_in f)) (width_in f * height_in f))) (not_read Count out)
    (pick (ltb (length out) (width_in f * height_in f)) (not_read Room out)
    (answered (picture_of (width_in f) (height_in f)) (over_front (pixels_in f) out))))
