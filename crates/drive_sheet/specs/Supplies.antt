-- The codes of the four voltages of a sheet (#104): the voltage lists of waveform.rs, read from the millivolts to the code.
use Rattle.std.specs.Prelude.{Bool, false, not, ◌&&◌, ◌||◌, ℕ, ltb, ℤ, pos, Option, Some, None, is_some}
use Rattle.std.specs.Int.Signed.{le_z}
use Rattle.numbers.specs.Choice.{pick}
use Rattle.voltage.specs.Codes.{source_voltage, vsl_voltage, vcom_voltage}
use Rattle.config.specs.Lowest.{lowest}
use Rattle.drive_sheet.specs.declared.Supply.{Supply}
use Rattle.drive_sheet.specs.declared.Supply.TheVariants.{Vsh1, Vsh2, Vsl, Vcom}
use Rattle.drive_sheet.specs.declared.SupplyCodes.{SupplyCodes}
use Rattle.drive_sheet.specs.declared.Sheet.{Sheet}

-- what a code of a supply stands for
abbrev pub voltage_of : Supply → ℕ → Option ℤ
voltage_of Vsh1 code = source_voltage code
voltage_of Vsh2 code = source_voltage code
voltage_of Vsl code = vsl_voltage code
voltage_of Vcom code = vcom_voltage code

-- the two whole numbers are one
abbrev pub same_z : ℤ → ℤ → Bool
same_z a b = le_z a b && le_z b a

-- the code is listed, with these millivolts
unfoldable pub is_listed_as : Option ℤ → ℤ → Bool
is_listed_as (Some listed) millivolts = same_z listed millivolts
is_listed_as None millivolts = false

-- how many codes there are: 00h to FFh
abbrev pub code_count : ℕ
code_count = 256

-- what a search through all codes has found, if anything
abbrev pub code_found : ℕ → Option ℕ
code_found code = pick (ltb code code_count) (Some code) None

-- the code of a supply's millivolts: 00h of 0 mV, else the one that the datasheet lists with them
unfoldable pub supply_code : Supply → ℤ → Option ℕ
supply_code supply millivolts =
    pick (same_z millivolts (pos 0)) (Some 0) (code_found (lowest (λ code. is_listed_as (voltage_of supply code) millivolts) code_count))

-- those of a sheet
abbrev pub supply_codes_of : Sheet → SupplyCodes
supply_codes_of h =
    record {
      vsh1 = supply_code Vsh1 h.vsh1;
      vsh2 = supply_code Vsh2 h.vsh2;
      vsl = supply_code Vsl h.vsl;
      vcom = supply_code Vcom h.vcom;
    }

-- one of the four is missing
abbrev pub lacks_code : SupplyCodes → Bool
lacks_code c = not (is_some c.vsh1) || not (is_some c.vsh2) || not (is_some c.vsl) || not (is_some c.vcom)
