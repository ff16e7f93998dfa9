-- Where the 112 bytes of a setting have what (datasheet Figure 6-6; SCOPE, Settings).
use Rattle.std.specs.Prelude.{List, [], ◌∷◌, ℕ, ◌+◌, ◌-◌, ◌*◌, ◌/◌, ◌%◌, ◌^◌, eqb, get_or}
use Rattle.numbers.specs.Choice.{pick}
use Rattle.numbers.specs.Lists.{tab}
use Rattle.waveform.specs.declared.GroupCodes.{GroupCodes}
use Rattle.waveform.specs.declared.Group.{Group}
use Rattle.waveform.specs.declared.Waveform.{Waveform}
use Rattle.waveform.specs.Voltages.{levels_of}

-- a byte holds four two-bit codes, phase 0 highest
abbrev pub code_in : ℕ → ℕ → ℕ
code_in byte phase = byte / 2 ^ (6 - 2 * phase) % 4

-- byte 10 × lut + group holds the codes of a LUT in a group; here that of phase `phase` stands at 4 × lut + phase
unfoldable pub codes_of : List ℕ → ℕ → List ℕ
codes_of s group = tab 20 (λ k. code_in (get_or s (10 * (k / 4) + group) 0) (k % 4))

-- bytes 100 to 104 hold two frame-rate codes each, the even group high
unfoldable pub frame_rate_of : List ℕ → ℕ → ℕ
frame_rate_of s group =
    pick (eqb (group % 2) 0)
    (get_or s (100 + group / 2) 0 / 16 % 16)
    (get_or s (100 + group / 2) 0 % 16)

-- bytes 50 + 5 × group on hold four frame counts and repeats minus one
unfoldable pub group_codes_of : List ℕ → ℕ → GroupCodes
group_codes_of s group =
    record {
      frames = get_or s (50 + 5 * group) 0 ∷ get_or s (51 + 5 * group) 0 ∷ get_or s (52 + 5 * group) 0 ∷ get_or s (53 + 5 * group) 0 ∷ [];
      repeats = get_or s (54 + 5 * group) 0 + 1;
      frame_rate = frame_rate_of s group;
      codes = codes_of s group;
    }

-- p has the period of each frame-rate code
abbrev pub timed : List ℕ → GroupCodes → Group
timed p g = record { frames = g.frames; repeats = g.repeats; frame_ns = get_or p g.frame_rate 0; codes = g.codes }

-- ten groups, and the voltages
unfoldable pub waveform_of : List ℕ → List ℕ → Waveform
waveform_of s p = record { groups = tab 10 (λ group. timed p (group_codes_of s group)); levels = levels_of s }
