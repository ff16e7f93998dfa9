-- The waveform that is taken for a mode and a temperature (datasheet §6.9, as config.rs cites it).
use Rattle.std.specs.Prelude.{Bool, ◌&&◌, ◌||◌, List, [], ℕ, ◌*◌, ◌%◌, eqb, take, drop, Option, Some, None}
use Rattle.std.specs.Int.Signed.{lt_z, le_z}
use Rattle.numbers.specs.Choice.{pick}
use Rattle.config.specs.declared.DisplayMode.{DisplayMode}
use Rattle.config.specs.Mode.{mode_number}
use Rattle.config.specs.Temperature.{sixteenths_of}
use Rattle.otp.specs.Table.{entry_bytes, entry_count, mode_at, lower_at, upper_at, bad_table}
use Rattle.otp.specs.Search.{last_of}

-- the register's temperature is −2048, the coldest: 0x800 in its low twelve bits
abbrev pub is_coldest : ℕ → Bool
is_coldest register = eqb (register % 4096) 0x800

-- a range goes down to what lies above its lower bound; one whose lower bound is −2048 holds −2048 too (SCOPE, OTP table; #107)
abbrev pub reaches : ℕ → ℕ → Bool
reaches lower register = lt_z (sixteenths_of lower) (sixteenths_of register) || (is_coldest lower && is_coldest register)

-- the entry is of the mode, and its range holds the register's temperature
unfoldable pub covers : List ℕ → DisplayMode → ℕ → ℕ → Bool
covers otp mode register entry =
    eqb (mode_at otp entry) (mode_number mode) && reaches (lower_at otp entry) register
    && le_z (sixteenths_of register) (sixteenths_of (upper_at otp entry))

-- "The last match will be selected"; none of a table that 12 refuses
unfoldable pub found_entry : List ℕ → DisplayMode → ℕ → Option ℕ
found_entry otp mode register = pick (bad_table otp) None (last_of (covers otp mode register) (entry_count otp))

-- the bytes of an entry
abbrev pub part_of : List ℕ → Option ℕ → List ℕ
part_of otp (Some entry) = take entry_bytes (drop (entry_bytes * entry) otp)
part_of otp None = []

-- the number of an entry, and 255 for none (SCOPE, OTP table; #108)
abbrev pub place_of : Option ℕ → ℕ
place_of (Some entry) = entry
place_of None = 255
