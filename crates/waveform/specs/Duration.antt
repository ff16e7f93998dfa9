-- How long a display runs, in nanoseconds (waveform.rs, `duration_ns`).
use Rattle.std.specs.Prelude.{List, ℕ, zero, suc, ◌+◌, ◌*◌, min, get_or}
use Rattle.numbers.specs.Saturation.{largest}
use Rattle.waveform.specs.declared.Group.{Group}
use Rattle.waveform.specs.declared.Waveform.{Waveform}
use Rattle.waveform.specs.Phases.{no_group}

-- the frames of a group's four phases
abbrev pub frames_of : Group → ℕ
frames_of g = get_or g.frames 0 0 + get_or g.frames 1 0 + get_or g.frames 2 0 + get_or g.frames 3 0

-- every frame of every repeat
unfoldable pub group_ns : Group → ℕ
group_ns g = frames_of g * g.repeats * g.frame_ns

-- the first n groups
unfoldable pub groups_ns : List Group → ℕ → ℕ
groups_ns gs zero = 0
groups_ns gs (suc n) = groups_ns gs n + group_ns (get_or gs n no_group)

-- ten groups; computed moments stop at 2^64 − 1 (SCOPE, Time)
abbrev pub duration_of : Waveform → ℕ
duration_of w = min (groups_ns w.groups 10) (largest 64)
