-- A text without a bad line is that of a sheet that fits the columns. Assumes nothing.
use Rattle.std.specs.Prelude.{None}
use mathlib.Core.Path.{◌≡◌, refl, sym, ap, subst, ◌∙◌}
use mathlib.Core.Bool.{Bool, true, false, ◌&&◌, ◌||◌, false≢true}
use mathlib.Core.List.{List}
use Prim.Native.Nat.{ℕ, zero, suc, ◌+◌, ◌-◌, ◌*◌, ◌/◌, ◌%◌, ◌^◌, ◌<◌, ◌≤◌}
use native.Mathlib.Omega.{arith}
use lib.Dec.{eqb, leb}
use lib.IntN.{ℤ, pos, negsuc, neg_ℤ, nat_abs}
use lib.Signed.{lt_z}
use lib.ListN.{get_or}
use borrow.Author.Tests.{ne_eqb, le-leb, leb-true}
use Rattle.numbers.specs.Choice.{pick}
use Rattle.numbers.specs.Lists.{tab}
use Rattle.numbers.proofs.Lin.{le_in}
use Rattle.numbers.proofs.Painted.{get_d_tab}
use Rattle.waveform.specs.declared.GroupCodes.{GroupCodes}
use Rattle.column.specs.Columns.{has_digit, symbol_at, column_of, natural, whole}
use Rattle.column.specs.Reading.{value_of}
use Rattle.column.proofs.Symbols.{column_length, column_at_is}
use Rattle.drive_sheet.specs.declared.Sheet.{Sheet}
use Rattle.drive_sheet.specs.Bytes.{no_group_codes, group_at, code_at}
use Rattle.sheet_text.specs.Text.{sheet_text}
use Rattle.sheet_text.specs.Reading.{value_at, minus_at, whole_at, group_drawn, sheet_in, bad_line_of, drawing_of}
use Rattle.sheet_text_laws.specs.Fits.{GroupFits, ColumnFits, SheetFits}
use Rattle.sheet_text_laws.proofs.Holds.{Holds, column_back}
use Rattle.sheet_text_laws.proofs.Signs.{any_false, any_same, minus_in}
use Rattle.sheet_text_laws.proofs.Places.{repeats_in, rate_in, code_in_is, group_holds, vsh1_holds, vsh2_holds, vsl_holds, vcom_holds}
use Rattle.sheet_text_laws.proofs.Text.{read_is_text}

-- ---- a column counts no more than its nines
module _ (f : ℕ → ℕ) (small : (i : ℕ) → f i - 48 ≤ 9) where
  three_digits : value_of (tab 3 f) < 1000
  unfolding tab
  three_digits = omega (arith, small 0, small 1, small 2)

  four_digits : value_of (tab 4 f) < 10000
  unfolding tab
  four_digits = omega (arith, small 0, small 1, small 2, small 3)

  seven_digits : value_of (tab 7 f) < 10000000
  unfolding tab
  seven_digits = omega (arith, small 0, small 1, small 2, small 3, small 4, small 5, small 6)

  six_digits : f 0 - 48 ≡ 0 → value_of (tab 7 f) < 1000000
  unfolding tab
  six_digits e = omega (arith, e, small 1, small 2, small 3, small 4, small 5, small 6)

module _ (negative : Bool) (n : ℕ) where
  symbol_small : (k : ℕ) → symbol_at negative n k - 48 ≤ 9
  unfolding symbol_at
  symbol_small k = by (has_digit n k) (negative && has_digit n (k - 1))
    where
      by : (a b : Bool) → pick a (48 + n / 10 ^ k % 10) (pick b 45 32) - 48 ≤ 9
      by true b = omega arith
      by false true = omega arith
      by false false = omega arith

  symbol_none : (k : ℕ) → has_digit n k ≡ false → symbol_at negative n k - 48 ≡ 0
  unfolding symbol_at
  symbol_none k e = ap (λ (a : Bool). pick a (48 + n / 10 ^ k % 10) (pick (negative && has_digit n (k - 1)) 45 32) - 48) e ∙ by (negative && has_digit n (k - 1))
    where
      by : (b : Bool) → pick b 45 32 - 48 ≡ 0
      by true = refl
      by false = refl

  -- a digit is no minus
  digit_not : (k : ℕ) → 10 ^ k ≤ n → eqb (symbol_at negative n k) 45 ≡ false
  unfolding symbol_at
  digit_not k l = ne_eqb (symbol_at negative n k) 45 (λ e. by (has_digit n k) (or_right (eqb k 0) (leb (10 ^ k) n) (le-leb (10 ^ k) n l)) e)
    where
      or_right : (a b : Bool) → b ≡ true → a || b ≡ true
      or_right true b e = refl
      or_right false b e = e

      by : (a : Bool) → a ≡ true → pick a (48 + n / 10 ^ k % 10) (pick (negative && has_digit n (k - 1)) 45 32) ≡ 45 → ⊥
      by true q e = omega arith
      by false q e = false≢true q

  -- seven digits leave no room for one
  full : 1000000 ≤ n → minus_in (column_of 7 negative n) ≡ false
  full l =
      any_false (λ i. eqb (get_or (column_of 7 negative n) i 0) 45) 7
      (λ i m. ap (λ (b : ℕ). eqb b 45) (column_at_is 7 negative n i m) ∙ digit_not (7 - 1 - i) (power i m))
    where
      power : (i : ℕ) → i < 7 → 10 ^ (7 - 1 - i) ≤ n
      power zero m = l
      power (suc zero) m = omega (arith, l)
      power (suc (suc zero)) m = omega (arith, l)
      power (suc (suc (suc zero))) m = omega (arith, l)
      power (suc (suc (suc (suc zero)))) m = omega (arith, l)
      power (suc (suc (suc (suc (suc zero))))) m = omega (arith, l)
      power (suc (suc (suc (suc (suc (suc zero)))))) m = omega (arith, l)
      power (suc (suc (suc (suc (suc (suc (suc i))))))) m = absurd (omega arith)

  signed_small : minus_in (column_of 7 negative n) ≡ true → value_of (column_of 7 negative n) < 1000000
  unfolding column_of
  signed_small e = by (leb 1000000 n) refl
    where
      by : (b : Bool) → leb 1000000 n ≡ b → value_of (column_of 7 negative n) < 1000000
      by true q = absurd (false≢true (sym (full (leb-true 1000000 n q)) ∙ e))
      by false q = six_digits (λ i. symbol_at negative n (7 - 1 - i)) (λ i. symbol_small (7 - 1 - i)) (symbol_none 6 q)

three_below : (n : ℕ) → value_of (natural 3 n) < 1000
unfolding column_of
three_below n = three_digits (λ i. symbol_at false n (3 - 1 - i)) (λ i. symbol_small false n (3 - 1 - i))

four_below : (n : ℕ) → value_of (natural 4 n) < 10000
unfolding column_of
four_below n = four_digits (λ i. symbol_at false n (4 - 1 - i)) (λ i. symbol_small false n (4 - 1 - i))

seven_below : (negative : Bool) (n : ℕ) → value_of (column_of 7 negative n) < 10000000
unfolding column_of
seven_below negative n = seven_digits (λ i. symbol_at negative n (7 - 1 - i)) (λ i. symbol_small negative n (7 - 1 - i))

-- ---- millivolts, from a column that was written
down_fits : (v : ℕ) → v < 1000000 → ColumnFits (neg_ℤ (pos v))
down_fits zero l = record { low = le_in (negsuc 999998) (pos 0) (omega arith); high = le_in (pos 0) (pos 9999999) (omega arith) }
down_fits (suc m) l =
    record { low = le_in (negsuc 999998) (negsuc m) (omega (arith, l)); high = le_in (negsuc m) (pos 9999999) (omega arith) }

up_fits : (v : ℕ) → v < 10000000 → ColumnFits (pos v)
up_fits v l = record { low = le_in (negsuc 999998) (pos v) (omega arith); high = le_in (pos v) (pos 9999999) (omega (arith, l)) }

module _ (text : List ℕ) (at : ℕ) (z : ℤ) (h : Holds text at (whole 7 z)) where
  value_is : value_of (whole 7 z) ≡ value_at text at 7
  value_is = ap value_of (sym (column_back text at 7 (whole 7 z) (column_length 7 _ _) h))

  minus_is : minus_in (whole 7 z) ≡ minus_at text at
  minus_is = any_same (λ i. eqb (get_or (whole 7 z) i 0) 45) (λ i. eqb (get_or text (at + i) 0) 45) 7
      (λ k l. ap (λ (b : ℕ). eqb b 45) (sym (h.byte k (omega (arith, column_length 7 (lt_z z (pos 0)) (nat_abs z))))))

  whole_fits : ColumnFits (whole_at text at)
  unfolding whole_at
  whole_fits = by (minus_at text at) refl
    where
      by : (b : Bool) → minus_at text at ≡ b → ColumnFits (pick b (neg_ℤ (pos (value_at text at 7))) (pos (value_at text at 7)))
      by true q = down_fits (value_at text at 7) (subst (λ (v : ℕ). v < 1000000) value_is (signed_small (lt_z z (pos 0)) (nat_abs z) (minus_is ∙ q)))
      by false q = up_fits (value_at text at 7) (subst (λ (v : ℕ). v < 10000000) value_is (seven_below (lt_z z (pos 0)) (nat_abs z)))

-- ---- the sheet of a text that is its own
module _ (text : List ℕ) (own : text ≡ sheet_text (sheet_in text)) where
  abbrev h : Sheet
  h = sheet_in text

  here : (at : ℕ) (column : List ℕ) → Holds (sheet_text h) at column → Holds text at column
  here at column = subst (λ (t : List ℕ). Holds t at column) (sym own)

  module _ (k : ℕ) (l : k < 10) where
    abbrev group : GroupCodes
    group = group_at h k

    abbrev line : ℕ
    line = 52 * k

    held : (at : ℕ) (column : List ℕ) → Holds (sheet_text h) (line + at) column → Holds text (line + at) column
    held at column = here (line + at) column

    drawn_fits : GroupFits (group_drawn text k)
    unfolding group_drawn
    drawn_fits =
        let repeats = ap value_of (column_back text (line + 19) 4 (natural 4 group.repeats) (column_length 4 false _)
        (held 19 _ (group_holds h k 19 _ l (repeats_in group k)))) in
        let rate = ap value_of (column_back text (line + 23) 3 (natural 3 group.frame_rate) (column_length 3 false _)
        (held 23 _ (group_holds h k 23 _ l (rate_in group k)))) in
        record {
          frames_fit = λ phase m.
              let e = get_d_tab 4 (λ p. value_at text (line + 3 + 4 * p) 4 % 256) phase 0 m in omega (arith, e);
          repeats_fit = omega (arith, repeats, four_below group.repeats);
          rate_fits = omega (arith, rate, three_below group.frame_rate);
          codes_fit = λ i m.
              let e = get_d_tab 20 (λ j. get_or text (line + 27 + j + j / 4) 0 - 48) i 0 m in
              let code = code_at group (i / 4) (i % 4) in
              let at = 27 + 5 * (i / 4) + i % 4 in
              let place = held at (natural 1 code) (group_holds h k at _ l (code_in_is group k (i / 4) (i % 4) (omega arith) (omega arith))) in
              let byte = place.byte 0 (omega (arith, column_length 1 false code)) ∙ column_at_is 1 false code 0 (omega arith) in
              let there : get_or text (line + 27 + i + i / 4) 0 ≡ symbol_at false code 0 = ap (λ (j : ℕ). get_or text j 0) (omega arith) ∙ byte in
              omega (arith, e, there, symbol_small false code 0);
        }

  own_fits : SheetFits h
  unfolding sheet_in
  own_fits =
      record {
        group_fits = λ k l. subst GroupFits (sym (get_d_tab 10 (group_drawn text) k no_group_codes l)) (drawn_fits k l);
        gate_fits = omega arith;
        vsh1_fits = whole_fits text 536 h.vsh1 (here 536 _ (vsh1_holds h));
        vsh2_fits = whole_fits text 548 h.vsh2 (here 548 _ (vsh2_holds h));
        vsl_fits = whole_fits text 560 h.vsl (here 560 _ (vsl_holds h));
        vcom_fits = whole_fits text 572 h.vcom (here 572 _ (vcom_holds h));
      }

-- the sheet that is read from a text without a bad line fits the columns
pub read_fits : (text : List ℕ) → bad_line_of text ≡ None → SheetFits (drawing_of text).sheet
unfolding drawing_of
read_fits text e = own_fits text (read_is_text text e)
