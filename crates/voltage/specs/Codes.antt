-- The voltage codes that the datasheet lists (commands 0x03, 0x04 and 0x2C, as waveform.rs cites them).
use Rattle.std.specs.Prelude.{Bool, true, ◌&&◌, List, [], ◌∷◌, ℕ, ◌+◌, ◌-◌, ◌*◌, ◌/◌, ◌%◌, leb, eqb, ℤ, pos, neg_ℤ, Option, Some, None, is_some}
use Rattle.numbers.specs.Choice.{pick}

-- the code stands for a voltage
abbrev pub is_voltage : Option ℤ → Bool
is_voltage millivolts = is_some millivolts

-- a line of a list of codes: from the first to the last by `every`; `base` millivolts at the first, `step` more at each next
pub record Line : Type 0 where
  pub first : ℕ
  pub last : ℕ
  pub every : ℕ
  pub base : ℕ
  pub step : ℕ

-- the code stands in the line
abbrev pub has : Line → ℕ → Bool
has l code = leb l.first code && leb code l.last && eqb ((code - l.first) % l.every) 0

-- the line's millivolts at the code
abbrev pub at : Line → ℕ → ℕ
at l code = l.base + (code - l.first) / l.every * l.step

-- what the lines give for a code, with the list's sign
unfoldable pub voltage : (ℕ → ℤ) → List Line → ℕ → Option ℤ
voltage sign [] code = None
voltage sign (l ∷ ls) code = pick (has l code) (Some (sign (at l code))) (voltage sign ls code)

-- below 0 V
abbrev pub below : ℕ → ℤ
below n = neg_ℤ (pos n)

-- VSH1 and VSH2, from 9 V by 0.2 V: 23h–4Bh
abbrev pub source_high : Line
source_high = record { first = 0x23; last = 0x4B; every = 1; base = 9000; step = 200 }

-- VSH1 and VSH2, from 2.4 V by 0.1 V: 8Eh–CEh
abbrev pub source_low : Line
source_low = record { first = 0x8E; last = 0xCE; every = 1; base = 2400; step = 100 }

-- what a code of VSH1 or VSH2 stands for (0x04, bytes A and B)
abbrev pub source_voltage : ℕ → Option ℤ
source_voltage = voltage pos (source_high ∷ source_low ∷ [])

-- VSL, from −9 V by −0.5 V: even codes 1Ah–3Ah
abbrev pub vsl_line : Line
vsl_line = record { first = 0x1A; last = 0x3A; every = 2; base = 9000; step = 500 }

-- what a code of VSL stands for (0x04, byte C)
abbrev pub vsl_voltage : ℕ → Option ℤ
vsl_voltage = voltage below (vsl_line ∷ [])

-- DCVCOM, 0 V: 00h
abbrev pub vcom_zero : Line
vcom_zero = record { first = 0; last = 0; every = 1; base = 0; step = 0 }

-- DCVCOM, from −0.2 V by −0.1 V: every fourth code 08h–A0h (the step makes 84h −3.3 V; the datasheet prints −3.2 V)
abbrev pub vcom_line : Line
vcom_line = record { first = 0x08; last = 0xA0; every = 4; base = 200; step = 100 }

-- what a code of DCVCOM stands for (0x2C)
abbrev pub vcom_voltage : ℕ → Option ℤ
vcom_voltage = voltage below (vcom_zero ∷ vcom_line ∷ [])

-- VGH: 00h, and 07h–17h
abbrev pub gate_listed : ℕ → Bool
gate_listed code = pick (eqb code 0) true (leb 0x07 code && leb code 0x17)
