-- Whether the datasheet lists a parameter byte, by command and index (Table 7-1, as mod.rs has it).
use Rattle.std.specs.Prelude.{Bool, true, not, ◌&&◌, ◌||◌, List, [], ◌∷◌, ℕ, ◌+◌, ◌/◌, ◌%◌, eqb, ltb, leb}
use Rattle.numbers.specs.Choice.{pick}
use Rattle.numbers.specs.Rows.{TableRow, lookup}
use Rattle.voltage.specs.Codes.{is_voltage, source_voltage, vsl_voltage, vcom_voltage, gate_listed}
use Rattle.device.specs.declared.Registers.{Registers}

-- 0x01: byte B has bits 9:8 of MUX alone, and MUX + 1 is 300 to 680 lines; byte C has SM and GD alone, bits 1 and 2
abbrev pub driver_listed : ℕ → ℕ → ℕ → Bool
driver_listed mux index byte =
    pick (eqb index 0) true
    (pick (eqb index 1) (ltb byte 4 && (leb 300 (mux + 1) && leb (mux + 1) 680)) (eqb (byte % 2) 0 && ltb byte 8))

-- 0x04: bytes A and B are VSH1 and VSH2, byte C is VSL
abbrev pub sources_listed : ℕ → ℕ → Bool
sources_listed index byte = pick (ltb index 2) (is_voltage (source_voltage byte)) (is_voltage (vsl_voltage byte))

-- 0x1A: byte B holds A[3:0] in its high nibble, and the low one is 0
abbrev pub temperature_listed : ℕ → ℕ → Bool
temperature_listed index byte = pick (eqb index 0) true (eqb (byte % 16) 0)

-- an option of a plane (0x21): 0 normal, 4 bypass as 0, 8 inverse
abbrev pub plane_option : ℕ → Bool
plane_option nibble = eqb nibble 0 || eqb nibble 4 || eqb nibble 8

-- 0x21: byte A is an option for each plane; byte B is stored only
abbrev pub options_listed : ℕ → ℕ → Bool
options_listed index byte = pick (eqb index 0) (plane_option (byte / 16) && plane_option (byte % 16)) true

-- one of the four two-bit codes in a byte is 3
abbrev pub has_code3 : ℕ → Bool
has_code3 byte = eqb (byte % 4) 3 || eqb (byte / 4 % 4) 3 || eqb (byte / 16 % 4) 3 || eqb (byte / 64 % 4) 3

-- 0x32: LUT 4, bytes 40 to 49, drives VCOM, for which code 3 is "N/A"
abbrev pub lut_listed : ℕ → ℕ → Bool
lut_listed index byte = not ((leb 40 index && ltb index 50) && has_code3 byte)

-- 0x44 and 0x45: a high byte has bits 9:8 alone, and the start (byte B) or end (byte D) that it completes lies in the RAM
abbrev pub window_listed : ℕ → ℕ → ℕ → ℕ → ℕ → Bool
window_listed start end last index byte =
    pick (eqb (index % 2) 0) true (ltb byte 4 && leb (pick (ltb index 2) start end) last)

-- the commands with values that are not listed; of 0x29 bits 7, 5 and 4 are 0 and bit 6 is 1
abbrev pub listed_rows : Registers → ℕ → ℕ → List (TableRow Bool)
listed_rows r index byte =
    record { number = 0x01; gives = driver_listed r.mux index byte } ∷
    record { number = 0x03; gives = gate_listed byte } ∷
    record { number = 0x04; gives = sources_listed index byte } ∷
    record { number = 0x11; gives = ltb byte 8 } ∷
    record { number = 0x18; gives = eqb byte 0x80 || eqb byte 0x48 } ∷
    record { number = 0x1A; gives = temperature_listed index byte } ∷
    record { number = 0x21; gives = options_listed index byte } ∷
    record { number = 0x29; gives = eqb (byte / 16) 4 } ∷
    record { number = 0x2C; gives = is_voltage (vcom_voltage byte) } ∷
    record { number = 0x32; gives = lut_listed index byte } ∷
    record { number = 0x3C; gives = eqb (byte / 4 % 4) 0 } ∷
    record { number = 0x41; gives = ltb byte 2 } ∷
    record { number = 0x44; gives = window_listed r.window.x_start r.window.x_end 959 index byte } ∷
    record { number = 0x45; gives = window_listed r.window.y_start r.window.y_end 679 index byte } ∷
    record { number = 0x46; gives = eqb (byte / 8 % 2) 0 } ∷
    record { number = 0x47; gives = eqb (byte / 8 % 2) 0 } ∷
    []

-- whether a byte is listed, by the registers after it was stored; every value of the other commands is (0x10, 0x14 and 0x15 have rules of their own)
unfoldable pub listed : Registers → ℕ → ℕ → ℕ → Bool
listed r command index byte = lookup true command (listed_rows r index byte)
