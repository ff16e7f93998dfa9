-- The reference waveforms for the OTP of a GDEQ0426T82, as the table of reference.rs gives them.
use Rattle.std.specs.Prelude.{List, [], ◌∷◌, ◌++◌, ℕ, ◌*◌, ◌-◌, ◌/◌, ◌%◌, ltb, ℤ, pos, ◌*ℤ◌, get_or, replicate, Option, Some}
use Rattle.std.specs.Int.Signed.{le_z}
use Rattle.numbers.specs.Choice.{pick}
use Rattle.numbers.specs.Lists.{tab}
use Rattle.config.specs.declared.DisplayMode.{DisplayMode}
use Rattle.config.specs.declared.DisplayMode.TheVariants.{One, Two}
use Rattle.config.specs.Mode.{mode_number}
use Rattle.config.specs.Temperature.{coldest, warmest, register_of}

-- a line of the table: the mode, the range, for each group the frames of phase A and those of phase B at VSS, and phase A's codes of LUT0 to LUT3
pub record Setting : Type 0 where
  pub mode : DisplayMode
  pub lower : ℤ
  pub upper : ℤ
  pub frames : List ℕ
  pub rest : List ℕ
  pub codes : List (List ℕ)

-- VS codes: 0 VSS
abbrev pub VSS : ℕ
VSS = 0

-- VS codes: 1 VSH1
abbrev pub VSH1 : ℕ
VSH1 = 1

-- VS codes: 2 VSL
abbrev pub VSL : ℕ
VSL = 2

-- whole degrees Celsius, in sixteenths
abbrev pub celsius : ℕ → ℤ
celsius degrees = pos 16 *ℤ pos degrees

-- to black in four groups
abbrev pub black4 : List ℕ
black4 = VSL ∷ VSH1 ∷ VSL ∷ VSH1 ∷ []

-- to white in four groups
abbrev pub white4 : List ℕ
white4 = VSH1 ∷ VSL ∷ VSH1 ∷ VSL ∷ []

-- to black in three groups
abbrev pub black3 : List ℕ
black3 = VSH1 ∷ VSL ∷ VSH1 ∷ []

-- to white in three groups
abbrev pub white3 : List ℕ
white3 = VSL ∷ VSH1 ∷ VSL ∷ []

-- setting 0: mode 1, −128 °C ≤ T ≤ 50 °C, 4 × 20 frames; full: black and white twice, ending on the target
abbrev pub full : Setting
full =
    record {
      mode = One;
      lower = coldest.0;
      upper = celsius 50;
      frames = replicate 4 20;
      rest = [];
      codes = black4 ∷ white4 ∷ black4 ∷ white4 ∷ [];
    }

-- setting 1: mode 1, 50 °C < T ≤ 127.9 °C, 3 × 25 frames; full
abbrev pub warm : Setting
warm =
    record {
      mode = One;
      lower = celsius 50;
      upper = warmest.0;
      frames = replicate 3 25;
      rest = [];
      codes = black3 ∷ white3 ∷ black3 ∷ white3 ∷ [];
    }

-- setting 2: mode 2, whole range, 19 + 6 frames; differential: only LUT1 (to white) and LUT2 (to black) drive, then rest
abbrev pub differential : Setting
differential =
    record {
      mode = Two;
      lower = coldest.0;
      upper = warmest.0;
      frames = 19 ∷ [];
      rest = 6 ∷ [];
      codes = (VSS ∷ []) ∷ (VSL ∷ []) ∷ (VSH1 ∷ []) ∷ (VSS ∷ []) ∷ [];
    }

-- of every setting, the reset values of the datasheet (Table 7-1): VGH 20 V, VSH1 15 V, VSH2 5 V, VSL −15 V, DCVCOM 0 V
abbrev pub voltages : List ℕ
voltages = 0x00 ∷ 0x41 ∷ 0xA8 ∷ 0x32 ∷ 0x00 ∷ []

-- byte i of the 112 (datasheet Figure 6-6): ten bytes for each LUT with phase A's code highest, five for each group with the frames of phases
-- A and B first, five of frame-rate codes, all 0, and the voltages
abbrev pub setting_byte : Setting → ℕ → ℕ
setting_byte s i =
    pick (ltb i 50) (64 * get_or (get_or s.codes (i / 10) []) (i % 10) VSS)
    (pick (ltb i 100) (get_or (get_or s.frames ((i - 50) / 5) 0 ∷ get_or s.rest ((i - 50) / 5) 0 ∷ []) ((i - 50) % 5) 0)
    (pick (ltb i 105) 0 (get_or voltages (i - 105) 0)))

-- the mode, 0 for an approximation, and the bounds' registers, high byte first
abbrev pub header : Setting → List ℕ
header s =
    mode_number s.mode ∷ 0 ∷ register_of s.lower / 256 ∷ register_of s.lower % 256 ∷ register_of s.upper / 256 ∷ register_of s.upper % 256 ∷ []

-- an entry: SCOPE, OTP table
abbrev pub entry_of : Setting → List ℕ
entry_of s = header s ++ tab 112 (setting_byte s)

-- the three settings, in the order of the table
unfoldable pub reference_table : List ℕ
reference_table = entry_of full ++ entry_of warm ++ entry_of differential

-- the table's ranges: mode 1 has setting 0 up to 50 °C and setting 1 above, and mode 2 has setting 2, −128 °C among them (#107)
abbrev pub setting_for : DisplayMode → ℤ → Option ℕ
setting_for One t = pick (le_z t (celsius 50)) (Some 0) (Some 1)
setting_for Two t = Some 2
