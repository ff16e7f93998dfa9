-- The 112 bytes of a sheet, and the sheet of 112 bytes (datasheet Figure 6-6; SCOPE, Settings; #104).
use Rattle.std.specs.Prelude.{◌≡◌, List, [], ◌∷◌, ℕ, ◌+◌, ◌-◌, ◌*◌, ◌/◌, ◌%◌, ◌<◌, ltb, length, get_or, unwrap_or}
use Rattle.numbers.specs.Choice.{pick}
use Rattle.numbers.specs.Lists.{tab}
use Rattle.voltage.specs.Codes.{vcom_voltage}
use Rattle.waveform.specs.declared.GroupCodes.{GroupCodes}
use Rattle.waveform.specs.Voltages.{or_zero, levels_of}
use Rattle.waveform.specs.Setting.{group_codes_of}
use Rattle.drive_sheet.specs.declared.SupplyCodes.{SupplyCodes}
use Rattle.drive_sheet.specs.declared.Sheet.{Sheet}
use Rattle.drive_sheet.specs.Supplies.{supply_codes_of}

-- what stands past the end of a list of groups
abbrev pub no_group_codes : GroupCodes
no_group_codes = record { frames = []; repeats = 0; frame_rate = 0; codes = [] }

-- a group of a sheet
abbrev pub group_at : Sheet → ℕ → GroupCodes
group_at h group = get_or h.groups group no_group_codes

-- the VS code of a LUT in a phase
abbrev pub code_at : GroupCodes → ℕ → ℕ → ℕ
code_at g lut phase = get_or g.codes (4 * lut + phase) 0

-- four two-bit codes of a LUT, phase 0 highest
unfoldable pub codes_byte : GroupCodes → ℕ → ℕ
codes_byte g lut = 64 * code_at g lut 0 + 16 * code_at g lut 1 + 4 * code_at g lut 2 + code_at g lut 3

-- four frame counts, then repeats minus one
unfoldable pub frames_byte : GroupCodes → ℕ → ℕ
frames_byte g place = pick (ltb place 4) (get_or g.frames place 0) (g.repeats - 1)

-- two frame-rate codes, the even group's high
unfoldable pub rates_byte : GroupCodes → GroupCodes → ℕ
rates_byte even odd = 16 * even.frame_rate + odd.frame_rate

-- bytes 105 to 111: the gate voltage, VSH1, VSH2, VSL, VCOM, and two that are 0
unfoldable pub last_byte : ℕ → SupplyCodes → ℕ → ℕ
last_byte gate c place = get_or (gate ∷ unwrap_or c.vsh1 0 ∷ unwrap_or c.vsh2 0 ∷ unwrap_or c.vsl 0 ∷ unwrap_or c.vcom 0 ∷ 0 ∷ 0 ∷ []) place 0

-- byte i: 10 × lut + group has codes, 50 + 5 × group on have frames and repeats, 100 to 104 have two groups' rates each
unfoldable pub sheet_byte : Sheet → ℕ → ℕ
sheet_byte h i =
    pick (ltb i 50) (codes_byte (group_at h (i % 10)) (i / 10))
    (pick (ltb i 100) (frames_byte (group_at h ((i - 50) / 5)) ((i - 50) % 5))
    (pick (ltb i 105) (rates_byte (group_at h (2 * (i - 100))) (group_at h (2 * (i - 100) + 1)))
    (last_byte h.gate (supply_codes_of h) (i - 105))))

-- the setting of a sheet
unfoldable pub setting_of : Sheet → List ℕ
setting_of h = tab 112 (sheet_byte h)

-- the sheet of a setting, by the definitions that decode it for a refresh; an unlisted voltage counts as 0, VCOM's as the others
unfoldable pub sheet_of : List ℕ → Sheet
sheet_of s =
    record {
      groups = tab 10 (group_codes_of s);
      gate = get_or s 105 0;
      vsh1 = (levels_of s).vsh1;
      vsh2 = (levels_of s).vsh2;
      vsl = (levels_of s).vsl;
      vcom = or_zero (vcom_voltage (get_or s 109 0));
    }

-- the lengths that the type of a group gives its lists
pub record FormedGroup (g : GroupCodes) : Type 0 where
  pub four : length g.frames ≡ 4
  pub twenty : length g.codes ≡ 20

-- those of a sheet
pub record Formed (h : Sheet) : Type 0 where
  pub ten : length h.groups ≡ 10
  pub group : (k : ℕ) → k < 10 → FormedGroup (group_at h k)
