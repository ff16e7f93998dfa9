-- The settings that leave the most charge: a source at 17 V against VCOM at −17 V in every frame that there is, and the reverse.
use Rattle.std.specs.Prelude.{List, [], ◌∷◌, ◌++◌, ℕ, replicate}

-- a setting of 112 bytes whose LUT 0 to 3 have one code byte in each group and LUT 4, VCOM's, another; 255 frames in each phase and 256
-- repeats, frame-rate code 0; VSH1 4Bh, 17,000 mV, and VSL 3Ah, −17,000 mV
abbrev pub longest_setting : ℕ → ℕ → List ℕ
longest_setting source vcom = replicate 40 source ++ replicate 10 vcom ++ replicate 50 255 ++ replicate 6 0 ++ 75 ∷ 0 ∷ 58 ∷ 0 ∷ 0 ∷ 0 ∷ []

-- VSH1 against VSL: the code byte 55h has VSH1 in its four phases, AAh VSL
abbrev pub most_setting : List ℕ
most_setting = longest_setting 85 170

-- VSL against VSH1
abbrev pub least_setting : List ℕ
least_setting = longest_setting 170 85

-- the longest period for every frame-rate code, in nanoseconds
abbrev pub longest_periods : List ℕ
longest_periods = replicate 16 100000000
