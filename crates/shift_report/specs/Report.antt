-- What `sensitivity` writes (SCOPE, Sensitivity): a line for each LUT, or a refusal's number.
use Rattle.std.specs.Prelude.{List, ◌++◌, ℕ}
use Rattle.glass.specs.declared.Optics.{Optics}
use Rattle.config.specs.Answer.{Answer, accepted, refused}
use Rattle.column.specs.Columns.{natural, line_end, Buffer, in_front}
use Rattle.voltage_shift.specs.declared.DrivingVoltage.{DrivingVoltage}
use Rattle.voltage_shift.specs.declared.Shift.{Shift}
use Rattle.voltage_shift.specs.declared.Shifts.{Shifts}
use Rattle.voltage_shift.specs.Bounds.{ShiftAnswer, shifting, refusing, bounds_of}

-- LUT, bound and steps of grey
unfoldable pub shift_line : ℕ → Shift → List ℕ
shift_line lut x = natural 3 lut ++ natural 20 x.bound ++ natural 4 x.steps ++ line_end

-- a line for each LUT
unfoldable pub shift_lines : Shifts → List ℕ
shift_lines b = shift_line 0 b.lut0 ++ shift_line 1 b.lut1 ++ shift_line 2 b.lut2 ++ shift_line 3 b.lut3

-- the number of an answer, 0 where nothing is refused
abbrev pub answer_number : Answer → ℕ
answer_number accepted = 0
answer_number (refused n v) = n

-- a refusal's number in three columns, as `wavelist` has it (SCOPE, Listing)
unfoldable pub number_line : ℕ → List ℕ
number_line n = natural 3 n ++ line_end

-- the text of an answer
unfoldable pub shift_text : ShiftAnswer → List ℕ
shift_text (shifting b) = shift_lines b
shift_text (refusing a) = number_line (answer_number a)

-- the bytes of four lines
abbrev pub lines_room : ℕ
lines_room = 112

-- a text at the front of the bytes lent, and its length; where they lack the room of four lines, nothing
unfoldable pub at_front : List ℕ → List ℕ → Buffer
at_front text out = in_front lines_room text out

-- the text of the bounds
abbrev pub bounds_text : Optics → List ℕ → List ℕ → DrivingVoltage → ℕ → ℕ → List ℕ
bounds_text o p s v before after = shift_text (bounds_of o p s v before after)
