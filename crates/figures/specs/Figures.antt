-- The ★ figures (SCOPE, Figures): what the definitions that the contracts cite compute, beside what SCOPE states.
-- An entry is a list of numbers, empty for none.
use Rattle.std.specs.Prelude.{ℕ, true, false, List, [], ◌∷◌, ℤ, pos, negsuc, replicate, Option, Some, None}
use Rattle.glass.specs.declared.Transfer.{Transfer}
use Rattle.glass.specs.Transfers.{apply_t}
use Rattle.glass.specs.Greys.{gray_z}
use Rattle.voltage.specs.Codes.{source_voltage, vsl_voltage, vcom_voltage}
use Rattle.waveform.specs.declared.Drive.TheVariants.{Lut}
use Rattle.waveform.specs.Walks.{whole_transfer, cut_transfer}
use Rattle.config.specs.Temperature.{sixteenths_of}
use Rattle.counter.specs.declared.Counter.{Counter}
use Rattle.counter.specs.Counter.{reset_entry, advanced_of}
use Rattle.counter.specs.Registers.{ten_bits}
use Rattle.gates.specs.Gates.{row_of_gate}

-- the millivolts of a code, if it is listed
abbrev pub millivolts : Option ℤ → List ℤ
millivolts (Some v) = v ∷ []
millivolts None = []

-- a natural number
abbrev pub number : ℕ → List ℤ
number n = pos n ∷ []

-- where a counter stands: x, then y
abbrev pub place : Counter → List ℤ
place c = pos c.x ∷ pos c.y ∷ []

-- the row of a gate, if it has one
abbrev pub row : Option ℕ → List ℤ
row (Some r) = pos r ∷ []
row None = []

-- 20,000,000 ns for every frame-rate code, asked for by name: the default is another (#105)
abbrev pub periods : List ℕ
periods = replicate 16 20000000

-- S
abbrev pub swing : ℤ
swing = pos 6000000000000

-- state S after a transfer, and its grey
abbrev pub after : Transfer → List ℤ
after t = apply_t t swing ∷ pos (gray_z (apply_t t swing) swing) ∷ []

-- by the definitions, of a setting; the counter is at x 16, y 5, in a window of x 13 to 23 with both axes incrementing
abbrev pub computed : List ℕ → List (List ℤ)
computed setting =
    millivolts (source_voltage 0x4B)
    ∷ millivolts (source_voltage 0x4C)
    ∷ millivolts (vsl_voltage 0x3A)
    ∷ millivolts (vsl_voltage 0x3B)
    ∷ millivolts (vcom_voltage 0x08)
    ∷ millivolts (vcom_voltage 0x04)
    ∷ (sixteenths_of 0x800 ∷ [])
    ∷ (sixteenths_of 0x7FF ∷ [])
    ∷ number (ten_bits 0x2A7 0 0x00)
    ∷ number (ten_bits (ten_bits 0x2A7 0 0x00) 1 0xFF)
    ∷ place (advanced_of (record { x = 16; y = 5 }) (record { x_start = 13; x_end = 23; y_start = 0; y_end = 679 }) reset_entry)
    ∷ row (row_of_gate 5 (record { sm = true; gd = false }) 680)
    ∷ row (row_of_gate 680 (record { sm = false; gd = false }) 680)
    ∷ row (row_of_gate 680 (record { sm = true; gd = false }) 680)
    ∷ row (row_of_gate 680 (record { sm = false; gd = true }) 680)
    ∷ row (row_of_gate 680 (record { sm = true; gd = true }) 680)
    ∷ row (row_of_gate 4 (record { sm = false; gd = true }) 5)
    ∷ after (whole_transfer setting periods (Lut 2) swing true)
    ∷ after (cut_transfer setting periods (Lut 2) swing true 100000000)
    ∷ after (cut_transfer setting periods (Lut 2) swing true 99999999)
    ∷ []

-- by SCOPE, in the same order
abbrev pub stated : List (List ℤ)
stated =
    (pos 17000 ∷ [])
    ∷ []
    ∷ (negsuc 16999 ∷ [])
    ∷ []
    ∷ (negsuc 199 ∷ [])
    ∷ []
    ∷ (negsuc 2047 ∷ [])
    ∷ (pos 2047 ∷ [])
    ∷ (pos 0x200 ∷ [])
    ∷ (pos 0x300 ∷ [])
    ∷ (pos 13 ∷ pos 6 ∷ [])
    ∷ (pos 342 ∷ [])
    ∷ []
    ∷ []
    ∷ []
    ∷ []
    ∷ []
    ∷ (pos 300000000000 ∷ pos 13 ∷ [])
    ∷ (pos 4500000000000 ∷ pos 191 ∷ [])
    ∷ (pos 4800000000000 ∷ pos 204 ∷ [])
    ∷ []
