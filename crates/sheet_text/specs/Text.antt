-- A drive sheet as text (docs/drive-sheet.md; #104): a line for each group, then the gate and the voltages.
use Rattle.std.specs.Prelude.{List, [], ◌∷◌, ◌++◌, ℕ, ℤ, get_or}
use Rattle.waveform.specs.declared.GroupCodes.{GroupCodes}
use Rattle.waveform.specs.Phases.{joined}
use Rattle.column.specs.Columns.{natural, whole, line_end, Buffer, in_front}
use Rattle.drive_sheet.specs.declared.Sheet.{Sheet}
use Rattle.drive_sheet.specs.Bytes.{group_at, code_at}

-- the codes of a LUT in the four phases, a digit each
unfoldable pub digits_text : GroupCodes → ℕ → List ℕ
digits_text g lut = joined 4 (λ phase. natural 1 (code_at g lut phase))

-- the same after a blank
unfoldable pub codes_text : GroupCodes → ℕ → List ℕ
codes_text g lut = (32 ∷ []) ++ digits_text g lut

-- the frames of the four phases
unfoldable pub frames_text : GroupCodes → List ℕ
frames_text g = joined 4 (λ phase. natural 4 (get_or g.frames phase 0))

-- a group: its number, frames, repeats, frame-rate code and the codes of five LUTs
unfoldable pub group_line : GroupCodes → ℕ → List ℕ
group_line g number =
    natural 3 number ++ frames_text g ++ natural 4 g.repeats ++ natural 3 g.frame_rate ++ joined 5 (codes_text g) ++ line_end

-- `gate`, in ASCII
abbrev pub gate_name : List ℕ
gate_name = 103 ∷ 97 ∷ 116 ∷ 101 ∷ []

-- `VSH1`
abbrev pub vsh1_name : List ℕ
vsh1_name = 86 ∷ 83 ∷ 72 ∷ 49 ∷ []

-- `VSH2`
abbrev pub vsh2_name : List ℕ
vsh2_name = 86 ∷ 83 ∷ 72 ∷ 50 ∷ []

-- `VSL `
abbrev pub vsl_name : List ℕ
vsl_name = 86 ∷ 83 ∷ 76 ∷ 32 ∷ []

-- `VCOM`
abbrev pub vcom_name : List ℕ
vcom_name = 86 ∷ 67 ∷ 79 ∷ 77 ∷ []

-- the gate byte
unfoldable pub gate_line : ℕ → List ℕ
gate_line gate = gate_name ++ natural 7 gate ++ line_end

-- a voltage in millivolts
unfoldable pub voltage_line : List ℕ → ℤ → List ℕ
voltage_line name millivolts = name ++ whole 7 millivolts ++ line_end

-- the voltages
unfoldable pub voltage_lines : Sheet → List ℕ
voltage_lines h =
    voltage_line vsh1_name h.vsh1 ++ voltage_line vsh2_name h.vsh2 ++ voltage_line vsl_name h.vsl ++ voltage_line vcom_name h.vcom

-- the groups
unfoldable pub group_lines : Sheet → List ℕ
group_lines h = joined 10 (λ number. group_line (group_at h number) number)

-- the text of a sheet
unfoldable pub sheet_text : Sheet → List ℕ
sheet_text h = group_lines h ++ gate_line h.gate ++ voltage_lines h

-- ten lines of 52 bytes, and five of 12
abbrev pub text_bytes : ℕ
text_bytes = 580

-- at the front of the bytes lent, and its length; where they are fewer, nothing
unfoldable pub put_in : Sheet → List ℕ → Buffer
put_in h out = in_front text_bytes (sheet_text h) out
