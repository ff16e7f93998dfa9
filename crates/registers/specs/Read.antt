-- What the read commands give, byte after byte (datasheet Table 7-1, as mod.rs has it in `read_byte`); 0x27 reads the RAM.
use Rattle.std.specs.Prelude.{Bool, List, [], ◌∷◌, ℕ, ◌+◌, ◌*◌, ◌/◌, ◌%◌, ltb, get_or, drop, Option, Some, None}
use Rattle.numbers.specs.Choice.{pick}
use Rattle.numbers.specs.Rows.{TableRow, lookup}
use Rattle.device.specs.declared.Registers.{Registers}
use Rattle.device.specs.declared.Status.{Status}

-- what a read command gives: how many bytes, and which
pub record ReadBytes : Type 0 where
  pub count : ℕ
  pub bytes : List ℕ

-- that many bytes, these
abbrev pub answer : ℕ → List ℕ → ReadBytes
answer count bytes = record { count = count; bytes = bytes }

-- byte `index` of an answer; past its end there is none
abbrev pub byte_of : ReadBytes → ℕ → Option ℕ
byte_of a index = pick (ltb index a.count) (Some (get_or a.bytes index 0)) None

-- 0x1B: A[11:4] of the temperature, then A[3:0] in the high nibble; bits above the twelve are dropped
abbrev pub temperature_bytes : Registers → List ℕ
temperature_bytes r = r.temperature / 16 % 256 ∷ r.temperature % 16 * 16 ∷ []

-- 0x2D: byte A of 0x37, the VCOM register, then bytes B to J of 0x37
abbrev pub option_bytes : Registers → List ℕ
option_bytes r = get_or r.display_option 0 0 ∷ get_or r.lut 109 0 ∷ drop 1 r.display_option

-- 0x2F: bit 5 HV not ready, bit 4 VCI low, bit 2 busy, and bit 0 is 1
abbrev pub status_byte : Status → Bool → ℕ
status_byte s busy = pick s.hv_not_ready 32 0 + pick s.vci_low 16 0 + pick busy 4 0 + 1

-- the read commands of the registers; 0x2E gives the ten bytes of 0x38
abbrev pub read_rows : Registers → Status → Bool → List (TableRow ReadBytes)
read_rows r s busy =
    record { number = 0x1B; gives = answer 2 (temperature_bytes r) } ∷
    record { number = 0x2D; gives = answer 11 (option_bytes r) } ∷
    record { number = 0x2E; gives = answer 10 r.user_id } ∷
    record { number = 0x2F; gives = answer 1 (status_byte s busy ∷ []) } ∷
    []

-- byte `index` that a command gives; any other command gives none
unfoldable pub read_register : Registers → Status → Bool → ℕ → ℕ → Option ℕ
read_register r s busy command index = byte_of (lookup (answer 0 []) command (read_rows r s busy)) index
