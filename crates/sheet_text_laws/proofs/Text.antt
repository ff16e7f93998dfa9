-- Each text that is read as a sheet is the one that is written for it, and each sheet that fits its columns is read from its text. Assumes
-- nothing.
use Rattle.std.specs.Prelude.{Some, None}
use mathlib.Core.Path.{◌≡◌, refl, sym, ap, ◌∙◌}
use mathlib.Core.Bool.{Bool, true, false}
use mathlib.Core.List.{List, [], ◌∷◌}
use Prim.Native.Nat.{ℕ, suc, ◌+◌, ◌-◌, ◌*◌, ◌/◌, ◌%◌, ◌^◌, ◌<◌}
use native.Mathlib.Omega.{arith}
use lib.Dec.{eqb}
use lib.IntN.{ℤ, pos, neg_ℤ, nat_abs}
use lib.Signed.{lt_z}
use lib.ListN.{get_or, replicate, length-replicate}
use borrow.Author.Tests.{eq-eqb, eqb-true}
use Rattle.numbers.specs.Choice.{pick}
use Rattle.numbers.proofs.Cases.{took}
use Rattle.waveform.specs.declared.GroupCodes.{GroupCodes}
use Rattle.config.specs.Answer.{accepted}
use Rattle.column.specs.Columns.{symbol_at, natural, whole}
use Rattle.column.specs.Reading.{value_of}
use Rattle.column.proofs.Symbols.{column_length, column_at_is}
use Rattle.otp.specs.Search.{any_of}
use Rattle.drive_sheet.specs.declared.Sheet.{Sheet}
use Rattle.drive_sheet.specs.Bytes.{no_group_codes, group_at, code_at, setting_of, Formed}
use Rattle.drive_sheet.specs.Tests.{Writable, Reply, written_of}
use Rattle.drive_sheet.proofs.Back.{tabled}
use Rattle.drive_sheet.proofs.Order.{all_written}
use Rattle.sheet_text.specs.declared.Drawing.{Drawing}
use Rattle.sheet_text.specs.Text.{group_line, sheet_text}
use Rattle.sheet_text.specs.Reading.{value_at, whole_at, group_drawn, sheet_in, line_after, differs_in, bad_line_of, drawing_of}
use Rattle.sheet_text.specs.Answer.{reply_text, setting_text, drawing_text, answer_text}
use Rattle.sheet_text_laws.specs.Fits.{ColumnFits, SheetFits}
use Rattle.sheet_text_laws.proofs.Holds.{Holds, at_place, column_back}
use Rattle.sheet_text_laws.proofs.Signs.{natural_value, any_same, whole_back}
use Rattle.sheet_text_laws.proofs.Places.{frames_in, repeats_in, rate_in, code_in_is, group_holds, gate_holds, vsh1_holds, vsh2_holds, vsl_holds, vcom_holds}

-- ---- a text that is compared with itself, and one that does not differ
differs_not : (n : ℕ) (t : List ℕ) → differs_in n t t ≡ None
unfolding differs_in
differs_not n [] = refl
differs_not n (x ∷ xs) = sym (took _ _ _ _ (eq-eqb x x refl) refl) ∙ differs_not (line_after n x) xs

same_texts : (n : ℕ) (s t : List ℕ) → differs_in n s t ≡ None → s ≡ t
unfolding differs_in
same_texts n [] [] e = refl
same_texts n [] (y ∷ ys) e = cc
same_texts n (x ∷ xs) [] e = cc
same_texts n (x ∷ xs) (y ∷ ys) e = by (eqb x y) refl e (same_texts (line_after n x) xs ys)
  where
    by : (b : Bool) → eqb x y ≡ b → pick b (differs_in (line_after n x) xs ys) (Some n) ≡ None → (differs_in (line_after n x) xs ys ≡ None → xs ≡ ys) → x ∷ xs ≡ y ∷ ys
    by true q f more = λ i. eqb-true x y q i ∷ more f i
    by false q f more = cc

-- a text without a bad line is the text of the sheet that is read from it
pub read_is_text : (text : List ℕ) → bad_line_of text ≡ None → text ≡ sheet_text (drawing_of text).sheet
unfolding drawing_of
read_is_text text e = same_texts 1 text (sheet_text (sheet_in text)) e

-- ---- columns, read back
module _ (text : List ℕ) (at : ℕ) where
  number_back : (w n : ℕ) → n < 10 ^ suc w → n < 2 ^ 64 → Holds text at (natural (suc w) n) → value_at text at (suc w) ≡ n
  number_back w n l m h =
      ap value_of (column_back text at (suc w) (natural (suc w) n) (column_length (suc w) false n) h) ∙ natural_value w n l m

  signed_back : (z : ℤ) → ColumnFits z → Holds text at (whole 7 z) → whole_at text at ≡ z
  unfolding whole_at
  signed_back z f h =
      let column = column_back text at 7 (whole 7 z) (column_length 7 _ _) h in
      (λ i. pick (minus_is i) (neg_ℤ (pos (value_of (column i)))) (pos (value_of (column i)))) ∙ whole_back z f
    where
      minus_is : any_of (λ i. eqb (get_or text (at + i) 0) 45) 7 ≡ any_of (λ i. eqb (get_or (whole 7 z) i 0) 45) 7
      minus_is = any_same (λ i. eqb (get_or text (at + i) 0) 45) (λ i. eqb (get_or (whole 7 z) i 0) 45) 7
          (λ k l. ap (λ (b : ℕ). eqb b 45) (h.byte k (omega (arith, column_length 7 (lt_z z (pos 0)) (nat_abs z)))))

-- the units' digit
digit : (n : ℕ) → symbol_at false n 0 ≡ 48 + n % 10
unfolding symbol_at
digit n = omega arith

-- ---- the sheet
module _ (h : Sheet) (formed : Formed h) (fits : SheetFits h) where
  abbrev text : List ℕ
  text = sheet_text h

  module _ (k : ℕ) (l : k < 10) where
    abbrev group : GroupCodes
    group = group_at h k

    abbrev line : ℕ
    line = 52 * k

    held : (at : ℕ) (column : List ℕ) → Holds (group_line group k) at column → Holds text (line + at) column
    held at column = group_holds h k at column l

    frame_back : (phase : ℕ) → phase < 4 → value_at text (line + 3 + 4 * phase) 4 % 256 ≡ get_or group.frames phase 0
    frame_back phase m =
        let small = (fits.group_fits k l).frames_fit phase m in
        let n = number_back text (line + 3 + 4 * phase) 3 (get_or group.frames phase 0) (omega arith) (omega arith)
        (at_place (held (3 + 4 * phase) _ (frames_in group k phase m)) (omega arith)) in
        omega (arith, n, small)

    code_back : (i : ℕ) → i < 20 → get_or text (line + 27 + i + i / 4) 0 - 48 ≡ get_or group.codes i 0
    code_back i m =
        let small = (fits.group_fits k l).codes_fit i m in
        let code = code_at group (i / 4) (i % 4) in
        let place = held (27 + 5 * (i / 4) + i % 4) (natural 1 code) (code_in_is group k (i / 4) (i % 4) (omega arith) (omega arith)) in
        let byte = place.byte 0 (omega (arith, column_length 1 false code)) ∙ column_at_is 1 false code 0 (omega arith) in
        let same : code ≡ get_or group.codes i 0 = ap (λ (j : ℕ). get_or group.codes j 0) (omega arith) in
        let there : get_or text (line + 27 + i + i / 4) 0 ≡ 48 + code % 10 = ap (λ (j : ℕ). get_or text j 0) (omega arith) ∙ byte ∙ digit code in
        omega (arith, there, same, small)

    group_back : group_drawn text k ≡ group
    unfolding group_drawn
    group_back =
        let g = fits.group_fits k l in
        let repeats = number_back text (line + 19) 3 group.repeats (omega (arith, g.repeats_fit)) (omega (arith, g.repeats_fit)) (held 19 _ (repeats_in group k)) in
        let rate = number_back text (line + 23) 2 group.frame_rate (omega (arith, g.rate_fits)) (omega (arith, g.rate_fits)) (held 23 _ (rate_in group k)) in
        λ i. record {
          frames = tabled 4 (λ phase. value_at text (line + 3 + 4 * phase) 4 % 256) 0 group.frames (formed.group k l).four frame_back i;
          repeats = (let e : value_at text (line + 19) 4 % 65536 ≡ group.repeats = omega (arith, repeats, g.repeats_fit) in e) i;
          frame_rate = rate i;
          codes = tabled 20 (λ j. get_or text (line + 27 + j + j / 4) 0 - 48) 0 group.codes (formed.group k l).twenty code_back i;
        }

  pub sheet_read : sheet_in text ≡ h
  unfolding sheet_in
  sheet_read =
      let gate = number_back text 524 6 h.gate (omega (arith, fits.gate_fits)) (omega (arith, fits.gate_fits)) (gate_holds h) in
      λ i. record {
        groups = tabled 10 (group_drawn text) no_group_codes h.groups formed.ten group_back i;
        gate = (let e : value_at text 524 7 % 256 ≡ h.gate = omega (arith, gate, fits.gate_fits) in e) i;
        vsh1 = signed_back text 536 h.vsh1 fits.vsh1_fits (vsh1_holds h) i;
        vsh2 = signed_back text 548 h.vsh2 fits.vsh2_fits (vsh2_holds h) i;
        vsl = signed_back text 560 h.vsl fits.vsl_fits (vsl_holds h) i;
        vcom = signed_back text 572 h.vcom fits.vcom_fits (vcom_holds h) i;
      }

  -- a sheet that fits its columns is read from its text, and no line is bad
  pub text_is_read : drawing_of text ≡ record { bad_line = None; sheet = h }
  unfolding drawing_of
  text_is_read =
      λ i. record { bad_line = (ap (λ (s : Sheet). differs_in 1 text (sheet_text s)) sheet_read ∙ differs_not 1 text) i; sheet = sheet_read i }

  -- what `sheet` writes for it is the setting, or the number, that `write` answers of it
  pub text_is_told : answer_text text ≡ setting_text h
  unfolding answer_text drawing_of
  text_is_told =
      ap (λ (d : Drawing). drawing_text d.bad_line d.sheet) text_is_read

  -- its setting, where `write` accepts it
  pub text_is_answered : Writable h → answer_text text ≡ setting_of h
  unfolding setting_text
  text_is_answered w =
      let lent : List ℕ = replicate 112 0 in
      let told : accepted ≡ (written_of h lent).answer = ap (λ (r : Reply). r.answer) (all_written h lent (setting_of h) (length-replicate {A = ℕ} 112 0) w refl) in
      text_is_told ∙ ap (reply_text h) (sym told)
