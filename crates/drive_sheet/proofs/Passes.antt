-- What a sheet that 61, 62 and 63 let pass has: codes for its voltages, and groups whose numbers fit their bytes. Assumes nothing.
use Rattle.std.specs.Prelude.{Option, Some, None, is_some}
use mathlib.Core.Path.{◌≡◌, refl, ap, ◌∙◌}
use mathlib.Core.Bool.{Bool, true, false, not, ◌||◌, true≢false}
use mathlib.Core.Logic.{⊎_elim}
use Prim.Native.Nat.{ℕ, zero, suc, ◌<◌, ◌≤◌}
use native.Mathlib.Nat.{not-suc-le-zero, le_of_suc-le-suc, eq-or-lt_of_le}
use native.Mathlib.Omega.{arith}
use lib.Dec.{eqb, ltb}
use lib.ListN.{get_or}
use borrow.Author.Tests.{eqb-false, ltb-false}
use Rattle.waveform.specs.declared.GroupCodes.{GroupCodes}
use Rattle.otp.specs.Search.{any_of}
use Rattle.drive_sheet.specs.declared.Sheet.{Sheet}
use Rattle.drive_sheet.specs.declared.SupplyCodes.{SupplyCodes}
use Rattle.drive_sheet.specs.Supplies.{supply_codes_of, lacks_code}
use Rattle.drive_sheet.specs.Bytes.{group_at}
use Rattle.drive_sheet.specs.Tests.{bad_repeats, high_code, bad_codes, Writable}

-- neither of two tests refuses
pub neither : (a b : Bool) → a || b ≡ false → (a ≡ false) × (b ≡ false)
neither true b e = absurd (true≢false e)
neither false b e = (refl, e)

-- what a search over all of them did not find, none of them is
pub none_of : (p : ℕ → Bool) (n : ℕ) → any_of p n ≡ false → (k : ℕ) → k < n → p k ≡ false
unfolding any_of
none_of p zero e k l = absurd (not-suc-le-zero l)
none_of p (suc n) e k l =
    let both = neither (any_of p n) (p n) e in
    ⊎_elim (λ (q : k ≡ n). ap p q ∙ both.1) (λ (d : k < n). none_of p n both.0 k d) (eq-or-lt_of_le (le_of_suc-le-suc l))

-- ---- a group
pub code_below : (g : GroupCodes) → bad_codes g ≡ false → (k : ℕ) → k < 20 → get_or g.codes k 0 < 4
unfolding bad_codes
code_below g e k l =
    omega (arith, ltb-false 3 (get_or g.codes k 0) (none_of (high_code g.codes) 20 (neither (any_of (high_code g.codes) 20) (ltb 15 g.frame_rate) e).0 k l))

pub rate_below : (g : GroupCodes) → bad_codes g ≡ false → g.frame_rate < 16
unfolding bad_codes
rate_below g e = omega (arith, ltb-false 15 g.frame_rate (neither (any_of (high_code g.codes) 20) (ltb 15 g.frame_rate) e).1)

pub repeats_within : (g : GroupCodes) → bad_repeats g ≡ false → (1 ≤ g.repeats) × (g.repeats ≤ 256)
unfolding bad_repeats
repeats_within g e =
    let n = neither (eqb g.repeats 0) (ltb 256 g.repeats) e in
    let f : g.repeats ≡ 0 → ⊥ = eqb-false g.repeats 0 n.0 in
    let h : g.repeats ≤ 256 = ltb-false 256 g.repeats n.1 in
    (omega arith, h)

-- ---- a sheet's groups
module _ (h : Sheet) (w : Writable h) where
  pub group_repeats : (k : ℕ) → k < 10 → bad_repeats (group_at h k) ≡ false
  group_repeats = none_of (λ group. bad_repeats (group_at h group)) 10 w.repeated

  pub group_codes : (k : ℕ) → k < 10 → bad_codes (group_at h k) ≡ false
  group_codes = none_of (λ group. bad_codes (group_at h group)) 10 w.coded

-- ---- its voltages
is_there : (o : Option ℕ) → not (is_some o) ≡ false → is_some o ≡ true
is_there (Some code) e = refl
is_there None e = absurd (true≢false e)

-- none of the four is missing
pub record Coded (c : SupplyCodes) : Type 0 where
  pub vsh1_code : is_some c.vsh1 ≡ true
  pub vsh2_code : is_some c.vsh2 ≡ true
  pub vsl_code : is_some c.vsl ≡ true
  pub vcom_code : is_some c.vcom ≡ true

pub all_coded : (h : Sheet) → lacks_code (supply_codes_of h) ≡ false → Coded (supply_codes_of h)
all_coded h e =
    let c = supply_codes_of h in
    let abc = neither (not (is_some c.vsh1) || not (is_some c.vsh2) || not (is_some c.vsl)) (not (is_some c.vcom)) e in
    let ab = neither (not (is_some c.vsh1) || not (is_some c.vsh2)) (not (is_some c.vsl)) abc.0 in
    let a = neither (not (is_some c.vsh1)) (not (is_some c.vsh2)) ab.0 in
    record {
      vsh1_code = is_there c.vsh1 a.0;
      vsh2_code = is_there c.vsh2 a.1;
      vsl_code = is_there c.vsl ab.1;
      vcom_code = is_there c.vcom abc.1;
    }
