-- Where the columns of a sheet's text stand. Assumes nothing.
use mathlib.Core.Path.{◌≡◌, refl, ◌∙◌}
use mathlib.Core.Bool.{false}
use mathlib.Core.List.{List, [], ◌∷◌, ◌++◌}
use Prim.Native.Nat.{ℕ, ◌+◌, ◌*◌, ◌<◌}
use native.Mathlib.Omega.{arith}
use lib.IntN.{ℤ, pos, nat_abs}
use lib.Signed.{lt_z}
use lib.ListN.{length, get_or, length-append}
use Rattle.waveform.specs.declared.GroupCodes.{GroupCodes}
use Rattle.waveform.specs.Phases.{joined}
use Rattle.column.specs.Columns.{natural, whole, line_end}
use Rattle.column.proofs.Symbols.{column_length}
use Rattle.drive_sheet.specs.declared.Sheet.{Sheet}
use Rattle.drive_sheet.specs.Bytes.{group_at, code_at}
use Rattle.sheet_text.specs.Text.{digits_text, codes_text, frames_text, group_line, gate_name, vsh1_name, vsh2_name, vsl_name, vcom_name, gate_line, voltage_line, voltage_lines, group_lines, sheet_text}
use Rattle.sheet_text_laws.proofs.Holds.{Holds, here, left, right, at_place, joined_length, joined_holds}

abbrev blank : List ℕ
blank = 32 ∷ []

-- ---- a group's line
module _ (g : GroupCodes) where
  frames_wide : length (frames_text g) ≡ 16
  unfolding frames_text
  frames_wide = joined_length 4 (λ phase. natural 4 (get_or g.frames phase 0)) (λ phase. column_length 4 _ _) 4

  digits_wide : (lut : ℕ) → length (digits_text g lut) ≡ 4
  unfolding digits_text
  digits_wide lut = joined_length 1 (λ phase. natural 1 (code_at g lut phase)) (λ phase. column_length 1 _ _) 4

  codes_wide : (lut : ℕ) → length (codes_text g lut) ≡ 5
  unfolding codes_text
  codes_wide lut = length-append blank (digits_text g lut) ∙ omega (arith, digits_wide lut)

  luts_wide : length (joined 5 (codes_text g)) ≡ 25
  luts_wide = joined_length 5 (codes_text g) codes_wide 5

  module _ (number : ℕ) where
    -- the columns up to the frames, the repeats, the frame rate and the codes
    abbrev toFrames : List ℕ
    toFrames = natural 3 number ++ frames_text g

    abbrev toRepeats : List ℕ
    toRepeats = toFrames ++ natural 4 g.repeats

    abbrev toRate : List ℕ
    toRate = toRepeats ++ natural 3 g.frame_rate

    abbrev toCodes : List ℕ
    toCodes = toRate ++ joined 5 (codes_text g)

    to_frames : length toFrames ≡ 19
    to_frames = length-append (natural 3 number) (frames_text g) ∙ omega (arith, column_length 3 false number, frames_wide)

    to_repeats : length toRepeats ≡ 23
    to_repeats = length-append toFrames (natural 4 g.repeats) ∙ omega (arith, to_frames, column_length 4 false g.repeats)

    to_rate : length toRate ≡ 26
    to_rate = length-append toRepeats (natural 3 g.frame_rate) ∙ omega (arith, to_repeats, column_length 3 false g.frame_rate)

    to_codes : length toCodes ≡ 51
    to_codes = length-append toRate (joined 5 (codes_text g)) ∙ omega (arith, to_rate, luts_wide)

    line_wide : length (group_line g number) ≡ 52
    unfolding group_line
    line_wide = length-append toCodes line_end ∙ omega (arith, to_codes)

    pub frames_in : (phase : ℕ) → phase < 4 → Holds (group_line g number) (3 + 4 * phase) (natural 4 (get_or g.frames phase 0))
    unfolding group_line frames_text
    frames_in phase l =
        let column = natural 4 (get_or g.frames phase 0) in
        let inside = joined_holds 4 (λ phase. natural 4 (get_or g.frames phase 0)) (λ phase. column_length 4 _ _) 4 phase 0 column l (here column) in
        at_place
        (left toCodes line_end _ column (left toRate (joined 5 (codes_text g)) _ column (left toRepeats (natural 3 g.frame_rate) _ column (left toFrames (natural 4 g.repeats) _ column
        (right (natural 3 number) (frames_text g) _ column 3 (column_length 3 false number) inside)))))
        (omega arith)

    pub repeats_in : Holds (group_line g number) 19 (natural 4 g.repeats)
    unfolding group_line
    repeats_in =
        let column = natural 4 g.repeats in
        left toCodes line_end _ column (left toRate (joined 5 (codes_text g)) _ column (left toRepeats (natural 3 g.frame_rate) _ column
        (right toFrames column 0 column 19 to_frames (here column))))

    pub rate_in : Holds (group_line g number) 23 (natural 3 g.frame_rate)
    unfolding group_line
    rate_in =
        let column = natural 3 g.frame_rate in
        left toCodes line_end _ column (left toRate (joined 5 (codes_text g)) _ column (right toRepeats column 0 column 23 to_repeats (here column)))

    pub code_in_is : (lut phase : ℕ) → lut < 5 → phase < 4 → Holds (group_line g number) (27 + 5 * lut + phase) (natural 1 (code_at g lut phase))
    unfolding group_line digits_text codes_text
    code_in_is lut phase l m =
        let column = natural 1 (code_at g lut phase) in
        let digits = joined_holds 1 (λ phase. natural 1 (code_at g lut phase)) (λ phase. column_length 1 _ _) 4 phase 0 column m (here column) in
        let codes = right blank (digits_text g lut) _ column 1 refl digits in
        let luts = joined_holds 5 (codes_text g) codes_wide 5 lut _ column l codes in
        at_place (left toCodes line_end _ column (right toRate (joined 5 (codes_text g)) _ column 26 to_rate luts)) (omega arith)

-- ---- the other lines
gate_wide : (gate : ℕ) → length (gate_line gate) ≡ 12
unfolding gate_line
gate_wide gate =
    length-append (gate_name ++ natural 7 gate) line_end ∙ omega (arith, length-append gate_name (natural 7 gate), column_length 7 false gate)

gate_in : (gate : ℕ) → Holds (gate_line gate) 4 (natural 7 gate)
unfolding gate_line
gate_in gate =
    let column = natural 7 gate in
    left (gate_name ++ column) line_end _ column (right gate_name column 0 column 4 refl (here column))

module _ (name : List ℕ) (four : length name ≡ 4) (z : ℤ) where
  voltage_wide : length (voltage_line name z) ≡ 12
  unfolding voltage_line
  voltage_wide = length-append (name ++ whole 7 z) line_end ∙ omega (arith, length-append name (whole 7 z), column_length 7 (lt_z z (pos 0)) (nat_abs z), four)

  voltage_in : Holds (voltage_line name z) 4 (whole 7 z)
  unfolding voltage_line
  voltage_in = let column = whole 7 z in left (name ++ column) line_end _ column (right name column 0 column 4 four (here column))

-- ---- a sheet's text
module _ (h : Sheet) where
  abbrev vsh1Line : List ℕ
  vsh1Line = voltage_line vsh1_name h.vsh1

  abbrev vsh2Line : List ℕ
  vsh2Line = voltage_line vsh2_name h.vsh2

  abbrev vsl_line : List ℕ
  vsl_line = voltage_line vsl_name h.vsl

  abbrev vcom_line : List ℕ
  vcom_line = voltage_line vcom_name h.vcom

  two : length (vsh1Line ++ vsh2Line) ≡ 24
  two = length-append vsh1Line vsh2Line ∙ omega (arith, voltage_wide vsh1_name refl h.vsh1, voltage_wide vsh2_name refl h.vsh2)

  three : length (vsh1Line ++ vsh2Line ++ vsl_line) ≡ 36
  three = length-append (vsh1Line ++ vsh2Line) vsl_line ∙ omega (arith, two, voltage_wide vsl_name refl h.vsl)

  groups_wide : length (group_lines h) ≡ 520
  unfolding group_lines
  groups_wide = joined_length 52 (λ number. group_line (group_at h number) number) (λ number. line_wide (group_at h number) number) 10

  to_gate : length (group_lines h ++ gate_line h.gate) ≡ 532
  to_gate = length-append (group_lines h) (gate_line h.gate) ∙ omega (arith, groups_wide, gate_wide h.gate)

  -- of a group
  pub group_holds : (k at : ℕ) (column : List ℕ) → k < 10 → Holds (group_line (group_at h k) k) at column → Holds (sheet_text h) (52 * k + at) column
  unfolding sheet_text group_lines
  group_holds k at column l in-line =
      left (group_lines h ++ gate_line h.gate) (voltage_lines h) _ column (left (group_lines h) (gate_line h.gate) _ column
      (joined_holds 52 (λ number. group_line (group_at h number) number) (λ number. line_wide (group_at h number) number) 10 k at column l in-line))

  pub gate_holds : Holds (sheet_text h) 524 (natural 7 h.gate)
  unfolding sheet_text
  gate_holds =
      let column = natural 7 h.gate in
      left (group_lines h ++ gate_line h.gate) (voltage_lines h) _ column (right (group_lines h) (gate_line h.gate) 4 column 520 groups_wide (gate_in h.gate))

  voltages_hold : (at : ℕ) (column : List ℕ) → Holds (voltage_lines h) at column → Holds (sheet_text h) (532 + at) column
  unfolding sheet_text
  voltages_hold at column in_lines = right (group_lines h ++ gate_line h.gate) (voltage_lines h) at column 532 to_gate in_lines

  pub vsh1_holds : Holds (sheet_text h) 536 (whole 7 h.vsh1)
  unfolding voltage_lines
  vsh1_holds =
      let column = whole 7 h.vsh1 in
      voltages_hold 4 column (left (vsh1Line ++ vsh2Line ++ vsl_line) vcom_line _ column (left (vsh1Line ++ vsh2Line) vsl_line _ column (left vsh1Line vsh2Line _ column
      (voltage_in vsh1_name refl h.vsh1))))

  pub vsh2_holds : Holds (sheet_text h) 548 (whole 7 h.vsh2)
  unfolding voltage_lines
  vsh2_holds =
      let column = whole 7 h.vsh2 in
      voltages_hold 16 column (left (vsh1Line ++ vsh2Line ++ vsl_line) vcom_line _ column (left (vsh1Line ++ vsh2Line) vsl_line _ column
      (right vsh1Line vsh2Line 4 column 12 (voltage_wide vsh1_name refl h.vsh1) (voltage_in vsh2_name refl h.vsh2))))

  pub vsl_holds : Holds (sheet_text h) 560 (whole 7 h.vsl)
  unfolding voltage_lines
  vsl_holds =
      let column = whole 7 h.vsl in
      voltages_hold 28 column (left (vsh1Line ++ vsh2Line ++ vsl_line) vcom_line _ column
      (right (vsh1Line ++ vsh2Line) vsl_line 4 column 24 two (voltage_in vsl_name refl h.vsl)))

  pub vcom_holds : Holds (sheet_text h) 572 (whole 7 h.vcom)
  unfolding voltage_lines
  vcom_holds =
      let column = whole 7 h.vcom in
      voltages_hold 40 column (right (vsh1Line ++ vsh2Line ++ vsl_line) vcom_line 4 column 36 three (voltage_in vcom_name refl h.vcom))
