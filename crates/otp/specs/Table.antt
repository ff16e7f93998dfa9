-- The table lent in place of the OTP: its entries, and what 12 and 6 refuse of them (SCOPE, OTP table; SCOPE, Refusals).
use Rattle.std.specs.Prelude.{Bool, ◌||◌, not, List, [], ◌∷◌, ◌++◌, ℕ, ◌+◌, ◌*◌, ◌/◌, ◌%◌, eqb, ltb, length, get_or}
use Rattle.voltage.specs.Codes.{is_voltage, source_voltage, vsl_voltage, vcom_voltage}
use Rattle.config.specs.declared.Ssd1677Config.{Ssd1677Config}
use Rattle.config.specs.Lowest.{lowest}
use Rattle.config.specs.Answer.{Test}
use Rattle.config.specs.Tests.{config_tests}
use Rattle.otp.specs.Search.{any_of}

-- bytes of an entry: mode, provenance, lower and upper bound of two bytes each, and the 112 of the setting
abbrev pub entry_bytes : ℕ
entry_bytes = 118

-- the entries that a table holds at most (SCOPE, OTP table; #106)
abbrev pub most_entries : ℕ
most_entries = 64

-- the entries of a table
abbrev pub entry_count : List ℕ → ℕ
entry_count otp = length otp / entry_bytes

-- byte i of an entry
abbrev pub entry_byte : List ℕ → ℕ → ℕ → ℕ
entry_byte otp entry i = get_or otp (entry_bytes * entry + i) 0

-- 0 for mode One, 1 for mode Two
abbrev pub mode_at : List ℕ → ℕ → ℕ
mode_at otp entry = entry_byte otp entry 0

-- 0 for an approximation, 1 for measured
abbrev pub provenance_at : List ℕ → ℕ → ℕ
provenance_at otp entry = entry_byte otp entry 1

-- the register of the lower bound, high byte first
abbrev pub lower_at : List ℕ → ℕ → ℕ
lower_at otp entry = entry_byte otp entry 2 * 256 + entry_byte otp entry 3

-- the register of the upper bound, high byte first
abbrev pub upper_at : List ℕ → ℕ → ℕ
upper_at otp entry = entry_byte otp entry 4 * 256 + entry_byte otp entry 5

-- byte i of the setting
abbrev pub setting_at : List ℕ → ℕ → ℕ → ℕ
setting_at otp entry i = entry_byte otp entry (6 + i)

-- a mode or provenance byte above 1, or a bound above 4,095
unfoldable pub bad_entry : List ℕ → ℕ → Bool
bad_entry otp entry =
    ltb 1 (mode_at otp entry) || ltb 1 (provenance_at otp entry) || ltb 4095 (lower_at otp entry) || ltb 4095 (upper_at otp entry)

-- the length is not a multiple of an entry's bytes, or there are more entries than a table holds, or one is bad
unfoldable pub bad_table : List ℕ → Bool
bad_table otp = not (eqb (length otp % entry_bytes) 0) || ltb most_entries (entry_count otp) || any_of (bad_entry otp) (entry_count otp)

-- 12: the bytes lent are no table
abbrev pub table_test : List ℕ → Test
table_test otp = record { number = 12; value = 0; refuses = bad_table otp }

-- one of bytes 106 to 109 of the setting, VSH1, VSH2, VSL and VCOM, stands for no voltage
unfoldable pub unlisted_voltage : List ℕ → ℕ → Bool
unlisted_voltage otp entry =
    not (is_voltage (source_voltage (setting_at otp entry 106))) || not (is_voltage (source_voltage (setting_at otp entry 107)))
    || not (is_voltage (vsl_voltage (setting_at otp entry 108))) || not (is_voltage (vcom_voltage (setting_at otp entry 109)))

-- the first entry with an unlisted voltage, or the number of entries
abbrev pub unlisted_entry : List ℕ → ℕ
unlisted_entry otp = lowest (unlisted_voltage otp) (entry_count otp)

-- 6: an unlisted voltage, with the first such entry's index
abbrev pub voltages_test : List ℕ → Test
voltages_test otp = record { number = 6; value = unlisted_entry otp; refuses = ltb (unlisted_entry otp) (entry_count otp) }

-- at start: 1, 2, 3, 4, 5, 14, 12, 6
abbrev pub start_tests : Ssd1677Config → List ℕ → List Test
start_tests config otp = config_tests config ++ table_test otp ∷ voltages_test otp ∷ []
