-- The four codes of a byte as one word.
use Rattle.std.specs.Prelude.{ℕ, ◌+◌, ◌*◌}
use Rattle.waveform.specs.Setting.{code_in}

-- a byte for each code, that of phase 0 lowest
abbrev pub codes_in_word : ℕ → ℕ
codes_in_word byte = code_in byte 0 + 256 * code_in byte 1 + 65536 * code_in byte 2 + 16777216 * code_in byte 3
