-- The voltages of a setting, in millivolts, and which of them a VS code selects (datasheet Table 6-6; waveform.rs, `Levels`).
use Rattle.std.specs.Prelude.{List, ℕ, ◌%◌, ℤ, pos, negsuc, ◌≤ℤ◌, eqb, get_or, Option, Some, None}
use Rattle.numbers.specs.Choice.{pick}
use Rattle.voltage.specs.Codes.{source_voltage, vsl_voltage}
use Rattle.waveform.specs.declared.Levels.{Levels}

-- an unlisted voltage counts as 0 (SCOPE, Settings)
abbrev pub or_zero : Option ℤ → ℤ
or_zero (Some millivolts) = millivolts
or_zero None = pos 0

-- bytes 106 to 108 are VSH1, VSH2, VSL (Figure 6-6)
unfoldable pub levels_of : List ℕ → Levels
levels_of s =
    record {
      vsh1 = or_zero (source_voltage (get_or s 106 0));
      vsh2 = or_zero (source_voltage (get_or s 107 0));
      vsl = or_zero (vsl_voltage (get_or s 108 0));
    }

-- a source: 0 VSS, 1 VSH1, 2 VSL, 3 VSH2, by the code's low two bits (Table 6-6)
unfoldable pub source_level : Levels → ℕ → ℤ
source_level l code =
    pick (eqb (code % 4) 1) l.vsh1
    (pick (eqb (code % 4) 2) l.vsl
    (pick (eqb (code % 4) 3) l.vsh2
    (pos 0)))

-- VCOM around DCVCOM: 1 VSH1, 2 VSL, another 0 (Table 6-6)
unfoldable pub vcom_swing : Levels → ℕ → ℤ
vcom_swing l code = pick (eqb (code % 4) 1) l.vsh1 (pick (eqb (code % 4) 2) l.vsl (pos 0))

-- millivolts from −17,000 to 17,000, as all that the datasheet lists are
pub record Listable (v : ℤ) : Type 0 where
  pub low : negsuc 16999 ≤ℤ v
  pub high : v ≤ℤ pos 17000

-- levels that are
pub record AllListable (l : Levels) : Type 0 where
  pub vsh1_listable : Listable l.vsh1
  pub vsh2_listable : Listable l.vsh2
  pub vsl_listable : Listable l.vsl
