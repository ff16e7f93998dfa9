-- What is promised of a setting that is written from a sheet (#104).
use Rattle.std.specs.Prelude.{◌≡◌, List, ℕ, pos, length, get_or}
use Rattle.numbers.specs.Lists.{tab}
use Rattle.waveform.specs.declared.Waveform.{Waveform}
use Rattle.waveform.specs.Setting.{timed, waveform_of}
use Rattle.config.specs.Answer.{accepted}
use Rattle.drive_sheet.specs.declared.Sheet.{Sheet}
use Rattle.drive_sheet.specs.Bytes.{group_at, sheet_of}
use Rattle.drive_sheet.specs.Tests.{written_of}

-- a call of `write` that is not refused
abbrev pub Accepts : Sheet → List ℕ → Type 0
Accepts h lent = (written_of h lent).answer ≡ accepted

-- the waveform that a sheet draws, with the period of each frame-rate code
abbrev pub drawn_of : Sheet → List ℕ → Waveform
drawn_of h p =
    record {
      groups = tab 10 (λ group. timed p (group_at h group));
      levels = record { vsh1 = h.vsh1; vsh2 = h.vsh2; vsl = h.vsl };
    }

-- what is written from a sheet
pub record Drawn (h : Sheet) (s : List ℕ) : Type 0 where
  -- decoding it returns the sheet, and a refresh that decodes it is driven by what was drawn
  pub back : sheet_of s ≡ h
  pub driven : (p : List ℕ) → waveform_of s p ≡ drawn_of h p
  -- 112 bytes, the last two 00h
  pub long : length s ≡ 112
  pub byte_110 : get_or s 110 0 ≡ 0
  pub byte_111 : get_or s 111 0 ≡ 0
  -- a voltage of 0 mV is 00h
  pub vsh1_zero : h.vsh1 ≡ pos 0 → get_or s 106 0 ≡ 0
  pub vsh2_zero : h.vsh2 ≡ pos 0 → get_or s 107 0 ≡ 0
  pub vsl_zero : h.vsl ≡ pos 0 → get_or s 108 0 ≡ 0
  pub vcom_is_zero : h.vcom ≡ pos 0 → get_or s 109 0 ≡ 0

-- two sheets and what is written from each: equal sheets are exactly those with equal bytes
pub record Exactly (h k : Sheet) (s t : List ℕ) : Type 0 where
  pub same_bytes : h ≡ k → s ≡ t
  pub same_sheet : s ≡ t → h ≡ k
