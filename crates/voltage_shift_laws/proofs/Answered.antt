-- What `bounds` answers (#112), from its contract as the checker reads it (specs/Contracts). Weaken its `ensures`, and these are refused:
--     bounds-hold       the bounds hold for each LUT 0 to 3 and every state from 0 to S, whole or cut at any one moment, of the lent setting with
--                       the code before and with the code after
--     grays-hold        so do the steps of grey, of the greys that the two show
--     bounds-answered   where 4, 5, 11 and 91 find nothing, the answer is the bounds, each the smaller of the exact sum and S
--     optics-swing-is   its S is the panel's
-- Assumes nothing.
use Rattle.std.specs.Prelude.{Option, Some, None, Result, Ok, Err}
use mathlib.Core.Path.{◌≡◌, refl, sym, ap, subst, ◌∙◌}
use mathlib.Core.Bool.{Bool, true, false, not, ◌||◌}
use mathlib.Core.List.{List, [], ◌∷◌}
use Prim.Native.Nat.{ℕ, zero, suc, ◌≤◌, ◌<◌, min}
use native.Mathlib.Omega.{arith}
use native.Mathlib.Decide.{dec_lt}
use lib.IntN.{ℤ, pos, nat_abs, ◌-ℤ◌}
use lib.Dec.{eqb}
use lib.ListN.{length, get_or}
use borrow.Author.Tests.{eqb-false, eq-eqb, ne_eqb, le-ltb}
use Rattle.numbers.specs.Choice.{pick}
use Rattle.numbers.specs.Saturation.{least, most}
use Rattle.numbers.proofs.Hold.{clamp_high, clamp_mid}
use Rattle.glass.specs.declared.Optics.{Optics}
use Rattle.glass.specs.Greys.{gray_z}
use Rattle.glass.specs.Transfers.{apply_t}
use Rattle.voltage.specs.Codes.{is_voltage}
use Rattle.waveform.specs.declared.Drive.TheVariants.{Lut}
use Rattle.waveform.specs.Voltages.{or_zero}
use Rattle.waveform.specs.Setting.{waveform_of}
use Rattle.config.specs.Answer.{Answer, accepted, refused, Test, first_of}
use Rattle.config.specs.Tests.{swing_test, zero_period, periods_test, lent_test}
use Rattle.config.proofs.Answers.{passes, none_left}
use Rattle.config.proofs.Lowest.{lowest_none}
use Rattle.panel.specs.Finish.{setting_transfer}
use Rattle.panel.specs.Start.{swing_of}
use Rattle.voltage_shift.specs.declared.DrivingVoltage.{DrivingVoltage}
use Rattle.voltage_shift.specs.declared.Shift.{Shift}
use Rattle.voltage_shift.specs.declared.ShiftError.{ShiftError}
use Rattle.voltage_shift.specs.declared.Shifts.{Shifts}
use Rattle.voltage_shift.specs.Shift.{voltage_byte, driving_millivolts}
use Rattle.voltage_shift.specs.Bounds.{optics_swing, listed_test, bounds_tests, change_of, lut_shift, lut_shifts, shifts_for, shifting, shifting_unless, bounds_of, shift_answer}
use Rattle.voltage_shift_laws.specs.Settings.{AgreeBut, shift_at}
use Rattle.voltage_shift_laws.specs.Claims.{BoundsAnswers, bounds}
use Rattle.voltage_shift_laws.proofs.Sensitivity.{codes_bounded, codes_grays}

-- ---- the equation of the contract
pub answer_is : {o : Optics} {p s : List ℕ} {v : DrivingVoltage} {before after : ℕ} {r : Result Shifts ShiftError} → BoundsAnswers o p s v before after r
    → shift_answer r ≡ bounds_of o p s v before after
answer_is (bounds κs a r s q) = q

-- ---- what an answer with bounds says
answered : (a : Answer) (x b : Shifts) → shifting_unless a x ≡ shifting b → (a ≡ accepted) × (x ≡ b)
answered accepted x b e = (refl, cc)
answered (refused n v) x b e = absurd (let z : ◌≡◌ {A = ℕ} 0 1 = cc in omega arith)

passed : (t : Test) (ts : List Test) → first_of (t ∷ ts) ≡ accepted → (t.refuses ≡ false) × (first_of ts ≡ accepted)
unfolding first_of
passed t ts e = by t.refuses e
  where
    by : (r : Bool) → pick r (refused t.number t.value) (first_of ts) ≡ accepted → (r ≡ false) × (first_of ts ≡ accepted)
    by true f = absurd (let z : ◌≡◌ {A = ℕ} 0 1 = cc in omega arith)
    by false f = (refl, f)

both : (a b : Bool) → not a || not b ≡ false → (a ≡ true) × (b ≡ true)
both true true e = (refl, refl)
both true false e = absurd (let z : ◌≡◌ {A = ℕ} 0 1 = cc in omega arith)
both false b e = absurd (let z : ◌≡◌ {A = ℕ} 0 1 = cc in omega arith)

listed : (m : Option ℤ) → is_voltage m ≡ true → m ≡ Some (or_zero m)
listed (Some v) e = refl
listed None e = absurd (let z : ◌≡◌ {A = ℕ} 0 1 = cc in omega arith)

-- S of the bounds is the panel's swing
pub optics_swing_is : (o : Optics) → swing_of o ≡ pos (optics_swing o)
optics_swing_is o = by (dec_lt 9223372036854775807 o.full_swing)
  where
    by : Dec (9223372036854775807 < o.full_swing) → swing_of o ≡ pos (optics_swing o)
    by (yes h) = clamp_high (pos o.full_swing) least most (omega arith) (omega arith) ∙ ap pos (omega arith)
    by (no h) = clamp_mid (pos o.full_swing) least most (omega arith) (omega arith) ∙ ap pos (omega arith)

shift_is : (S change : ℕ) (v : DrivingVoltage) (s p : List ℕ) (lut : ℕ) → lut < 4 → lut_shift S change v (waveform_of s p).groups lut ≡ shift_at (lut_shifts S change v (waveform_of s p).groups) lut
shift_is S change v s p zero h = refl
shift_is S change v s p (suc zero) h = refl
shift_is S change v s p (suc (suc zero)) h = refl
shift_is S change v s p (suc (suc (suc zero))) h = refl
shift_is S change v s p (suc (suc (suc (suc n)))) h = absurd (omega arith)

module _ (o : Optics) (p s : List ℕ) (v : DrivingVoltage) (before after : ℕ) (b : Shifts) (answers : BoundsAnswers o p s v before after (Ok b)) where
  -- what the tests found, and which bounds these are
  record Found : Type 0 where
    some : 1 ≤ optics_swing o
    was : driving_millivolts v before ≡ Some (or_zero (driving_millivolts v before))
    will : driving_millivolts v after ≡ Some (or_zero (driving_millivolts v after))
    are : shifts_for o p s v before after ≡ b

  found : Found
  unfolding bounds_of shift_answer
  found =
      let a = answered (first_of (bounds_tests o p s v before after)) (shifts_for o p s v before after) b (sym (answer_is answers)) in
      let p4 = passed (swing_test o) (periods_test p ∷ lent_test (length s) 112 ∷ listed_test v before after ∷ []) a.0 in
      let p5 = passed (periods_test p) (lent_test (length s) 112 ∷ listed_test v before after ∷ []) p4.1 in
      let p11 = passed (lent_test (length s) 112) (listed_test v before after ∷ []) p5.1 in
      let p91 = passed (listed_test v before after) [] p11.1 in
      let two = both (is_voltage (driving_millivolts v before)) (is_voltage (driving_millivolts v after)) p91.0 in
      record {
        some = omega (arith, eqb-false o.full_swing 0 p4.0);
        was = listed (driving_millivolts v before) two.0;
        will = listed (driving_millivolts v after) two.1;
        are = a.1;
      }

  -- the shift of a LUT
  shift_found : (lut : ℕ) → lut < 4 → lut_shift (optics_swing o) (change_of v before after) v (waveform_of s p).groups lut ≡ shift_at b lut
  shift_found lut l = shift_is (optics_swing o) (change_of v before after) v s p lut l ∙ ap (λ (y : Shifts). shift_at y lut) found.are

  -- the results differ by no more than the bound
  pub bounds_hold : (t u : List ℕ) → AgreeBut v s t → AgreeBut v s u → get_or t (voltage_byte v) 0 ≡ before → get_or u (voltage_byte v) 0 ≡ after
      → (black : Bool) (until : Option ℕ) (lut x : ℕ) → lut < 4 → x ≤ optics_swing o
      → nat_abs (apply_t (setting_transfer t p (Lut lut) (swing_of o) black until) (pos x) -ℤ apply_t (setting_transfer u p (Lut lut) (swing_of o) black until) (pos x)) ≤ (shift_at b lut).bound
  bounds_hold t u agree-t agree-u is-before is-after black until lut x l h =
      let f = found in
      let near : ℤ → ℕ → Type 0 = λ z n. nat_abs (apply_t (setting_transfer t p (Lut lut) z black until) (pos x) -ℤ apply_t (setting_transfer u p (Lut lut) z black until) (pos x)) ≤ n in
      subst (λ (z : ℤ). near z (shift_at b lut).bound) (sym (optics_swing_is o))
      (subst (λ (y : Shift). near (pos (optics_swing o)) y.bound) (shift_found lut l)
      (codes_bounded (optics_swing o) f.some (omega arith) p black until v s t u _ _ agree-t agree-u
      (ap (driving_millivolts v) is-before ∙ f.was)
      (ap (driving_millivolts v) is-after ∙ f.will)
      lut
      x
      h))

  -- and the greys shown by no more than its steps
  pub grays_hold : (t u : List ℕ) → AgreeBut v s t → AgreeBut v s u → get_or t (voltage_byte v) 0 ≡ before → get_or u (voltage_byte v) 0 ≡ after
      → (black : Bool) (until : Option ℕ) (lut x : ℕ) → lut < 4 → x ≤ optics_swing o
      → nat_abs (pos (gray_z (apply_t (setting_transfer t p (Lut lut) (swing_of o) black until) (pos x)) (swing_of o)) -ℤ pos (gray_z (apply_t (setting_transfer u p (Lut lut) (swing_of o) black until) (pos x)) (swing_of o)))
      ≤ (shift_at b lut).steps
  grays_hold t u agree-t agree-u is-before is-after black until lut x l h =
      let f = found in
      let near : ℤ → ℕ → Type 0 = λ z n.
      nat_abs (pos (gray_z (apply_t (setting_transfer t p (Lut lut) z black until) (pos x)) z) -ℤ pos (gray_z (apply_t (setting_transfer u p (Lut lut) z black until) (pos x)) z)) ≤ n in
      subst (λ (z : ℤ). near z (shift_at b lut).steps) (sym (optics_swing_is o))
      (subst (λ (y : Shift). near (pos (optics_swing o)) y.steps) (shift_found lut l)
      (codes_grays (optics_swing o) f.some (omega arith) p black until v s t u _ _ agree-t agree-u
      (ap (driving_millivolts v) is-before ∙ f.was)
      (ap (driving_millivolts v) is-after ∙ f.will)
      lut
      x
      h))

-- ---- where bounds are answered: a full swing and periods from 1 on, 112 bytes, and two listed codes
is_ok_of : (r : Result Shifts ShiftError) (x : Shifts) → shift_answer r ≡ shifting x → r ≡ Ok x
unfolding shift_answer
is_ok_of (Ok b) x e = ap Ok cc
is_ok_of (Err error) x e = absurd (let z : ◌≡◌ {A = ℕ} 0 1 = cc in omega arith)

pub bounds_answered : (o : Optics) (p s : List ℕ) (v : DrivingVoltage) (before after : ℕ) (r : Result Shifts ShiftError) → BoundsAnswers o p s v before after r
    → (was will : ℤ) → 1 ≤ o.full_swing → ((code : ℕ) → code < 16 → 1 ≤ get_or p code 0) → length s ≡ 112
    → driving_millivolts v before ≡ Some was → driving_millivolts v after ≡ Some will
    → r ≡ Ok (lut_shifts (min o.full_swing 9223372036854775807) (nat_abs (was -ℤ will)) v (waveform_of s p).groups)
unfolding bounds_of
bounds_answered o p s v before after r answers was will some periods long is-was is-will =
    is_ok_of r _ (answer_is answers ∙ ap (λ (a : Answer). shifting_unless a (shifts_for o p s v before after)) (sym all) ∙ ap shifting change)
  where
    none : zero_period p ≡ 16
    none = lowest_none (λ code. eqb (get_or p code 0) 0) 16 (λ code h. ne_eqb (get_or p code 0) 0 (λ e. omega (arith, periods code h)))

    all : accepted ≡ first_of (bounds_tests o p s v before after)
    all =
        passes (swing_test o) _ accepted (ne_eqb o.full_swing 0 (λ e. omega arith))
        (passes (periods_test p) _ accepted (le-ltb (zero_period p) 16 (omega (arith, none)))
        (passes (lent_test (length s) 112) _ accepted (ap not (eq-eqb (length s) 112 long))
        (passes (listed_test v before after) _ accepted (rw (is-was, is-will)) (none_left accepted refl))))

    change : shifts_for o p s v before after ≡ lut_shifts (optics_swing o) (nat_abs (was -ℤ will)) v (waveform_of s p).groups
    change = rw (is-was, is-will)
