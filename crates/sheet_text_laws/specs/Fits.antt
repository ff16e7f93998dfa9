-- The sheets that have a text of their own: those whose numbers fit its columns (docs/drive-sheet.md).
use Rattle.std.specs.Prelude.{ℕ, ◌<◌, ℤ, pos, negsuc, ◌≤ℤ◌, get_or}
use Rattle.waveform.specs.declared.GroupCodes.{GroupCodes}
use Rattle.drive_sheet.specs.declared.Sheet.{Sheet}
use Rattle.drive_sheet.specs.Bytes.{group_at}

-- a group: frames of a byte, repeats of four digits, a frame rate of three, codes of one
pub record GroupFits (g : GroupCodes) : Type 0 where
  pub frames_fit : (phase : ℕ) → phase < 4 → get_or g.frames phase 0 < 256
  pub repeats_fit : g.repeats < 10000
  pub rate_fits : g.frame_rate < 1000
  pub codes_fit : (k : ℕ) → k < 20 → get_or g.codes k 0 < 10

-- millivolts of seven columns, the sign among them
pub record ColumnFits (z : ℤ) : Type 0 where
  pub low : negsuc 999998 ≤ℤ z
  pub high : z ≤ℤ pos 9999999

-- a sheet of such groups and voltages, with a gate byte
pub record SheetFits (h : Sheet) : Type 0 where
  pub group_fits : (k : ℕ) → k < 10 → GroupFits (group_at h k)
  pub gate_fits : h.gate < 256
  pub vsh1_fits : ColumnFits h.vsh1
  pub vsh2_fits : ColumnFits h.vsh2
  pub vsl_fits : ColumnFits h.vsl
  pub vcom_fits : ColumnFits h.vcom
