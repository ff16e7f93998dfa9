-- The listing of a setting (SCOPE, Listing).
use Rattle.std.specs.Prelude.{List, [], ◌∷◌, ◌++◌, ℕ, ℤ, eqb, length, get_or, replicate}
use Rattle.numbers.specs.Choice.{pick}
use Rattle.waveform.specs.declared.Drive.TheVariants.{Lut}
use Rattle.waveform.specs.declared.Group.{Group}
use Rattle.waveform.specs.declared.Levels.{Levels}
use Rattle.waveform.specs.declared.Waveform.{Waveform}
use Rattle.waveform.specs.Setting.{waveform_of}
use Rattle.waveform.specs.Phases.{joined, no_group, phase_of}
use Rattle.waveform.specs.Duration.{duration_of}
use Rattle.column.specs.Columns.{natural, whole, line_end, Buffer, in_front}

-- the period of every frame-rate code, in nanoseconds: the listing's own, which is not the default (SCOPE, Listing; #105)
abbrev pub period : ℕ
period = 20000000

-- the drive of a LUT in a phase: source less VCOM, in millivolts before the panel's sign
abbrev pub drive_of : Levels → Group → ℕ → ℕ → ℤ
drive_of levels group phase lut = (phase_of levels (Lut lut) group phase).millivolts

-- those of LUT 0 to 3
unfoldable pub drives_of : Levels → Group → ℕ → List ℕ
drives_of levels group phase = joined 4 (λ lut. whole 7 (drive_of levels group phase lut))

-- group, phase, frames, repeats and period
unfoldable pub head_of : Group → ℕ → ℕ → List ℕ
head_of group number phase =
    natural 3 number ++ natural 3 phase ++ natural 4 (get_or group.frames phase 0) ++ natural 4 group.repeats ++ natural 9 period

-- the line of a phase with frames
unfoldable pub line_of : Levels → Group → ℕ → ℕ → List ℕ
line_of levels group number phase = head_of group number phase ++ drives_of levels group phase ++ line_end

-- a phase with no frames has none
unfoldable pub phase_text : Levels → Group → ℕ → ℕ → List ℕ
phase_text levels group number phase = pick (eqb (get_or group.frames phase 0) 0) [] (line_of levels group number phase)

-- the lines of a group
unfoldable pub group_text : Levels → Group → ℕ → List ℕ
group_text levels group number = joined 4 (phase_text levels group number)

-- those of ten groups
unfoldable pub lines_of : Waveform → List ℕ
lines_of w = joined 10 (λ number. group_text w.levels (get_or w.groups number no_group) number)

-- and the duration in nanoseconds
unfoldable pub listing_of : Waveform → List ℕ
listing_of w = lines_of w ++ natural 20 (duration_of w) ++ line_end

-- " 41": the input is not 112 bytes
abbrev pub not_a_setting : List ℕ
not_a_setting = 32 ∷ 52 ∷ 49 ∷ line_end

-- what is listed of some bytes
unfoldable pub text_of : List ℕ → List ℕ
text_of s = pick (eqb (length s) 112) (listing_of (waveform_of s (replicate 16 period))) not_a_setting

-- the bytes of the longest listing: 40 lines of 52, and the last of 21
abbrev pub room : ℕ
room = 2101

-- the text at the front of the bytes lent, and its length; where they lack the room, nothing
unfoldable pub listed : List ℕ → List ℕ → Buffer
listed s out = in_front room (text_of s) out
