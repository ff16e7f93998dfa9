-- The groups of a setting where its bytes stand.
use Rattle.std.specs.Prelude.{List, ℕ}
use Rattle.waveform.specs.declared.Group.{Group}
use Rattle.waveform.specs.Setting.{group_codes_of, timed}

-- group k of a setting, with p the period of each frame-rate code: that of its waveform
abbrev pub timed_group : List ℕ → List ℕ → ℕ → Group
timed_group s p k = timed p (group_codes_of s k)
