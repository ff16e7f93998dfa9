-- A sheet that passes is read back from its bytes. Assumes nothing.
use Rattle.std.specs.Prelude.{Option, Some, None, is_some, unwrap_or}
use mathlib.Core.Path.{◌≡◌, refl, sym, ap, subst, ◌∙◌}
use mathlib.Core.Bool.{Bool, true, false, false≢true}
use mathlib.Core.List.{List, [], ◌∷◌}
use Prim.Native.Nat.{ℕ, zero, suc, ◌+◌, ◌-◌, ◌*◌, ◌/◌, ◌%◌, ◌<◌}
use native.Mathlib.Omega.{arith}
use lib.Dec.{eqb, ltb}
use lib.IntN.{ℤ, pos}
use lib.ListN.{length, get_or}
use lib.Seq.{ext_get_or}
use borrow.Author.Tests.{lt-ltb, le-ltb, ltb-true, eqb-true, eqb-false}
use Rattle.numbers.specs.Choice.{pick}
use Rattle.numbers.specs.Lists.{tab}
use Rattle.numbers.proofs.Painted.{length_tab, get_d_tab}
use Rattle.voltage.specs.Codes.{voltage}
use Rattle.waveform.specs.declared.GroupCodes.{GroupCodes}
use Rattle.waveform.specs.Voltages.{or_zero, levels_of}
use Rattle.waveform.specs.Setting.{code_in, codes_of, frame_rate_of, group_codes_of}
use Rattle.config.specs.Lowest.{lowest}
use Rattle.drive_sheet.specs.declared.Sheet.{Sheet}
use Rattle.drive_sheet.specs.declared.Supply.{Supply}
use Rattle.drive_sheet.specs.declared.Supply.TheVariants.{Vsh1, Vsh2, Vsl, Vcom}
use Rattle.drive_sheet.specs.Supplies.{voltage_of, same_z, is_listed_as, code_count, code_found, supply_code}
use Rattle.drive_sheet.specs.Bytes.{no_group_codes, group_at, code_at, codes_byte, frames_byte, rates_byte, last_byte, sheet_byte, setting_of, sheet_of, Formed}
use Rattle.drive_sheet.specs.Tests.{bad_codes, Writable}
use Rattle.drive_sheet.proofs.Equal.{same_true}
use Rattle.drive_sheet.proofs.Found.{found}
use Rattle.drive_sheet.proofs.Passes.{code_below, rate_below, repeats_within, group_repeats, group_codes, all_coded}

-- ---- lists
-- a list by its elements
pub tabled : {A : Type 0} (n : ℕ) (f : ℕ → A) (d : A) (xs : List A) → length xs ≡ n → ((k : ℕ) → k < n → f k ≡ get_or xs k d) → tab n f ≡ xs
tabled n f d xs e h =
    ext_get_or d (tab n f) xs (length_tab n f ∙ sym e)
    (λ k l. let m : k < n = subst (λ (j : ℕ). k < j) (length_tab n f) l in get_d_tab n f k d m ∙ h k m)

four_of_is : (xs : List ℕ) → length xs ≡ 4 → get_or xs 0 0 ∷ get_or xs 1 0 ∷ get_or xs 2 0 ∷ get_or xs 3 0 ∷ [] ≡ xs
unfolding tab
four_of_is xs e = tabled 4 (λ k. get_or xs k 0) 0 xs e (λ k l. refl)

-- ---- bytes
module _ (h : Sheet) where
  pub byte_is : (i : ℕ) → i < 112 → get_or (setting_of h) i 0 ≡ sheet_byte h i
  unfolding setting_of
  byte_is i l = get_d_tab 112 (sheet_byte h) i 0 l

  at_codes : (i lut g : ℕ) → i ≡ 10 * lut + g → lut < 5 → g < 10 → get_or (setting_of h) i 0 ≡ codes_byte (group_at h g) lut
  unfolding sheet_byte
  at_codes i lut g e l m =
      let lutIs : i / 10 ≡ lut = omega arith in
      let groupIs : i % 10 ≡ g = omega arith in
      byte_is i (omega arith) ∙ rw (lt-ltb i 50 (omega arith), lutIs, groupIs)

  at_frames : (i g place : ℕ) → i ≡ 50 + 5 * g + place → g < 10 → place < 5 → get_or (setting_of h) i 0 ≡ frames_byte (group_at h g) place
  unfolding sheet_byte
  at_frames i g place e l m =
      let groupIs : (i - 50) / 5 ≡ g = omega arith in
      let placeIs : (i - 50) % 5 ≡ place = omega arith in
      byte_is i (omega arith) ∙ rw (le-ltb i 50 (omega arith), lt-ltb i 100 (omega arith), groupIs, placeIs)

  at_rates : (i pair : ℕ) → i ≡ 100 + pair → pair < 5 → get_or (setting_of h) i 0 ≡ rates_byte (group_at h (2 * pair)) (group_at h (2 * pair + 1))
  unfolding sheet_byte
  at_rates i pair e l =
      let pairIs : i - 100 ≡ pair = omega arith in
      byte_is i (omega arith) ∙ rw (le-ltb i 50 (omega arith), le-ltb i 100 (omega arith), lt-ltb i 105 (omega arith), pairIs)

-- ---- the four codes of a byte
module _ (a b c d : ℕ) (la : a < 4) (lb : b < 4) (lc : c < 4) (ld : d < 4) where
  code_in_is : (phase : ℕ) → phase < 4 → code_in (64 * a + 16 * b + 4 * c + d) phase ≡ get_or (a ∷ b ∷ c ∷ d ∷ []) phase 0
  code_in_is zero l = omega arith
  code_in_is (suc zero) l = omega arith
  code_in_is (suc (suc zero)) l = omega arith
  code_in_is (suc (suc (suc zero))) l = omega arith
  code_in_is (suc (suc (suc (suc n)))) l = absurd (omega arith)

four_at : (xs : List ℕ) (at phase : ℕ) → phase < 4 → get_or (get_or xs (at + 0) 0 ∷ get_or xs (at + 1) 0 ∷ get_or xs (at + 2) 0 ∷ get_or xs (at + 3) 0 ∷ []) phase 0 ≡ get_or xs (at + phase) 0
four_at xs at zero l = refl
four_at xs at (suc zero) l = refl
four_at xs at (suc (suc zero)) l = refl
four_at xs at (suc (suc (suc zero))) l = refl
four_at xs at (suc (suc (suc (suc n)))) l = absurd (omega arith)

codes_back : (g : GroupCodes) → bad_codes g ≡ false → (lut phase : ℕ) → lut < 5 → phase < 4 → code_in (codes_byte g lut) phase ≡ code_at g lut phase
unfolding codes_byte
codes_back g e lut phase l m =
    code_in_is (code_at g lut 0) (code_at g lut 1) (code_at g lut 2) (code_at g lut 3)
    (code_below g e (4 * lut + 0) (omega arith)) (code_below g e (4 * lut + 1) (omega arith))
    (code_below g e (4 * lut + 2) (omega arith)) (code_below g e (4 * lut + 3) (omega arith)) phase m
    ∙ four_at g.codes (4 * lut) phase m

-- ---- a voltage
listed_back : (m : Option ℤ) (z : ℤ) → is_listed_as m z ≡ true → or_zero m ≡ z
unfolding is_listed_as
listed_back (Some v) z e = same_true v z e
listed_back None z e = absurd (false≢true e)

-- 00h reads 0 mV for every supply: VCOM's list has it, and of the others it is unlisted
zero_back : (supply : Supply) → or_zero (voltage_of supply 0) ≡ pos 0
unfolding voltage
zero_back Vsh1 = refl
zero_back Vsh2 = refl
zero_back Vsl = refl
zero_back Vcom = refl

pub voltage_back : (supply : Supply) (z : ℤ) → is_some (supply_code supply z) ≡ true → or_zero (voltage_of supply (unwrap_or (supply_code supply z) 0)) ≡ z
unfolding supply_code
voltage_back supply z = by (same_z z (pos 0)) refl
  where
    stood : ℕ → Bool
    stood code = is_listed_as (voltage_of supply code) z

    first : ℕ
    first = lowest stood code_count

    search : (b : Bool) → ltb first code_count ≡ b → is_some (pick b (Some first) None) ≡ true
        → or_zero (voltage_of supply (unwrap_or (pick b (Some first) None) 0)) ≡ z
    search true e l = listed_back _ z (found stood code_count (ltb-true first code_count e))
    search false e l = absurd (false≢true l)

    by : (b : Bool) → same_z z (pos 0) ≡ b → is_some (pick b (Some 0) (code_found first)) ≡ true
        → or_zero (voltage_of supply (unwrap_or (pick b (Some 0) (code_found first)) 0)) ≡ z
    by true e l = zero_back supply ∙ sym (same_true z (pos 0) e)
    by false e l = search (ltb first code_count) refl l

-- ---- the sheet
module _ (h : Sheet) (f : Formed h) (w : Writable h) where
  below : (g : ℕ) → g < 10 → (group_at h g).frame_rate < 16
  below g l = rate_below (group_at h g) (group_codes h w g l)

  rate_back : (g : ℕ) → g < 10 → frame_rate_of (setting_of h) g ≡ (group_at h g).frame_rate
  unfolding frame_rate_of rates_byte
  rate_back g l = rw (at_rates h (100 + g / 2) (g / 2) refl (omega arith)) (by (eqb (g % 2) 0) refl)
    where
      rate : ℕ → ℕ
      rate k = (group_at h k).frame_rate

      high : (a b : ℕ) → a < 16 → b < 16 → (16 * a + b) / 16 % 16 ≡ a
      high a b m n = omega arith

      low : (a b : ℕ) → a < 16 → b < 16 → (16 * a + b) % 16 ≡ b
      low a b m n = omega arith

      even : ℕ
      even = 2 * (g / 2)

      by : (b : Bool) → eqb (g % 2) 0 ≡ b → pick b ((16 * rate even + rate (even + 1)) / 16 % 16) ((16 * rate even + rate (even + 1)) % 16) ≡ rate g
      by true e =
          let z = eqb-true (g % 2) 0 e in
          high (rate even) (rate (even + 1)) (below even (omega arith)) (below (even + 1) (omega arith)) ∙ ap rate (omega arith)
      by false e =
          let z : g % 2 ≡ 0 → ⊥ = eqb-false (g % 2) 0 e in
          low (rate even) (rate (even + 1)) (below even (omega arith)) (below (even + 1) (omega arith)) ∙ ap rate (omega arith)

  frame_back : (g place i : ℕ) → g < 10 → place < 4 → i ≡ 50 + 5 * g + place → get_or (setting_of h) i 0 ≡ get_or (group_at h g).frames place 0
  unfolding frames_byte
  frame_back g place i l m e = at_frames h i g place e l (omega arith) ∙ rw (lt-ltb place 4 m)

  repeats_back : (g : ℕ) → g < 10 → get_or (setting_of h) (54 + 5 * g) 0 + 1 ≡ (group_at h g).repeats
  unfolding frames_byte
  repeats_back g l =
      let e : get_or (setting_of h) (54 + 5 * g) 0 ≡ (group_at h g).repeats - 1 = at_frames h (54 + 5 * g) g 4 (omega arith) l (omega arith) in
      let r = repeats_within (group_at h g) (group_repeats h w g l) in
      omega (arith, e, r.0)

  pub group_back : (g : ℕ) → g < 10 → group_codes_of (setting_of h) g ≡ group_at h g
  unfolding group_codes_of codes_of
  group_back g l =
      let s = setting_of h in
      let frame = frame_back g in
      λ i. record {
        frames = ((λ j. frame 0 (50 + 5 * g) l (omega arith) (omega arith) j ∷ frame 1 (51 + 5 * g) l (omega arith) (omega arith) j
            ∷ frame 2 (52 + 5 * g) l (omega arith) (omega arith) j ∷ frame 3 (53 + 5 * g) l (omega arith) (omega arith) j ∷ [])
            ∙ four_of_is (group_at h g).frames (f.group g l).four) i;
        repeats = repeats_back g l i;
        frame_rate = rate_back g l i;
        codes = tabled 20 (λ k. code_in (get_or s (10 * (k / 4) + g) 0) (k % 4)) 0 (group_at h g).codes (f.group g l).twenty
            (λ k m.
            ap (λ (n : ℕ). code_in n (k % 4)) (at_codes h (10 * (k / 4) + g) (k / 4) g refl (omega arith) l)
            ∙ codes_back (group_at h g) (group_codes h w g l) (k / 4) (k % 4) (omega arith) (omega arith)
            ∙ ap (λ (n : ℕ). get_or (group_at h g).codes n 0) (omega arith)) i;
      }

  -- decoding what was written returns the sheet
  pub sheet_back : sheet_of (setting_of h) ≡ h
  unfolding sheet_of levels_of sheet_byte last_byte
  sheet_back =
      let c = all_coded h w.supplied in
      λ i. record {
        groups = tabled 10 (group_codes_of (setting_of h)) no_group_codes h.groups f.ten group_back i;
        gate = byte_is h 105 (omega arith) i;
        vsh1 = (ap (λ (n : ℕ). or_zero (voltage_of Vsh1 n)) (byte_is h 106 (omega arith)) ∙ voltage_back Vsh1 h.vsh1 c.vsh1_code) i;
        vsh2 = (ap (λ (n : ℕ). or_zero (voltage_of Vsh2 n)) (byte_is h 107 (omega arith)) ∙ voltage_back Vsh2 h.vsh2 c.vsh2_code) i;
        vsl = (ap (λ (n : ℕ). or_zero (voltage_of Vsl n)) (byte_is h 108 (omega arith)) ∙ voltage_back Vsl h.vsl c.vsl_code) i;
        vcom = (ap (λ (n : ℕ). or_zero (voltage_of Vcom n)) (byte_is h 109 (omega arith)) ∙ voltage_back Vcom h.vcom c.vcom_code) i;
      }
