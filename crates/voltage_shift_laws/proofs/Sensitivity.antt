-- The theorems of #112, for every state from 0 to S, whole or cut at any moment:
--     shift-bounded   two settings that differ in the code of one voltage end no farther apart than the bound
--     grays-bounded   nor do they show greys farther apart than the bound in steps of grey, rounded up
--     states-near     two states under one setting end no farther apart than they began
-- Assumes nothing.
use Rattle.std.specs.Prelude.{Option, Some, None}
use mathlib.Core.Path.{◌≡◌, refl, ap, subst, ◌∙◌}
use mathlib.Core.Bool.{Bool, false}
use mathlib.Core.List.{List, [], ◌∷◌, foldl}
use Prim.Native.Nat.{ℕ, ◌+◌, ◌≤◌, ◌<◌, min}
use native.Mathlib.Omega.{arith}
use native.Mathlib.Decide.{dec_lt}
use native.Mathlib.Nat.{zero-add}
use lib.IntN.{ℤ, pos, nat_abs, ◌-ℤ◌}
use lib.ListN.{get_or}
use Rattle.numbers.specs.Saturation.{largest}
use Rattle.glass.specs.Greys.{gray_z}
use Rattle.glass.specs.Transfers.{apply_t}
use Rattle.glass.specs.Exact.{drives}
use Rattle.glass.proofs.Exactly.{drives_le}
use Rattle.waveform.specs.declared.Drive.{Drive}
use Rattle.waveform.specs.declared.Drive.TheVariants.{Lut}
use Rattle.waveform.specs.declared.Driving.{Driving}
use Rattle.waveform.specs.declared.Phase.{Phase}
use Rattle.waveform.specs.declared.Progress.{Progress}
use Rattle.waveform.specs.Setting.{waveform_of}
use Rattle.waveform.specs.Walks.{whole_step, cut_step, walk_start, driving_of, phase_end, whole_transfer, cut_transfer}
use Rattle.waveform.specs.Exact.{all_drives, cut_drives, setting_phases}
use Rattle.waveform_laws.proofs.Exactly.{whole_exact, cut_exact}
use Rattle.waveform_laws.proofs.Steps.{step_on}
use Rattle.panel.specs.Finish.{setting_transfer}
use Rattle.voltage_shift.specs.declared.DrivingVoltage.{DrivingVoltage}
use Rattle.voltage_shift.specs.Shift.{voltage_byte, driving_millivolts, shift_of, bound_of, gray_steps}
use Rattle.voltage_shift_laws.specs.Settings.{AgreeBut}
use Rattle.voltage_shift_laws.proofs.Apart.{Near, abs_near, near_abs}
use Rattle.voltage_shift_laws.proofs.Steps.{grays_near}
use Rattle.voltage_shift_laws.proofs.Paired.{Paired, itself, whole_near, cut_near}
use Rattle.voltage_shift_laws.proofs.Settings.{setting_paired}

-- ---- a cut from 2^64 − 1 on is the whole display: no phase ends later
late : (d : Driving) (until : ℕ) (ps : List Phase) (w : Progress) → largest 64 ≤ until → w.stopped ≡ false → (foldl (cut_step d until) w ps).transfer ≡ foldl (whole_step d) w.transfer ps
late d until [] w h e = refl
late d until (p ∷ ps) w h e =
    let o : phase_end p w.elapsed ≤ until = omega arith in
    ap (λ (v : Progress). (foldl (cut_step d until) v ps).transfer) (step_on d until w p e o) ∙ late d until ps _ h refl

pub cut_late : (s p : List ℕ) (drive : Drive) (swing : ℤ) (black : Bool) (until : ℕ) → largest 64 ≤ until → cut_transfer s p drive swing black until ≡ whole_transfer s p drive swing black
unfolding cut_transfer whole_transfer
cut_late s p drive swing black until h = late (driving_of (waveform_of s p) drive swing black) until (setting_phases s p drive) (walk_start swing) h refl

-- ---- what two displays leave of two states
record TwoResults (S n : ℕ) (y z : ℤ) : Type 0 where
  one : ℕ
  other : ℕ
  is_one : y ≡ pos one
  is_other : z ≡ pos other
  one_in : one ≤ S
  other_in : other ≤ S
  near : Near one other n

-- held to S, since both are
held_near : (S n : ℕ) (y z : ℤ) (l : TwoResults S n y z) → Near l.one l.other (min n S)
held_near S n y z l = let k = l.near in let i = l.one_in in let j = l.other_in in record { above = omega arith; below = omega arith }

apart_left : (S n : ℕ) (y z : ℤ) → TwoResults S n y z → nat_abs (y -ℤ z) ≤ min n S
apart_left S n y z l = rw (l.is_one, l.is_other) (abs_near l.one l.other (min n S) (held_near S n y z l))

grays_left : (S n : ℕ) (y z : ℤ) → 1 ≤ S → TwoResults S n y z → nat_abs (pos (gray_z y (pos S)) -ℤ pos (gray_z z (pos S))) ≤ gray_steps S (min n S)
grays_left S n y z some l =
    rw (l.is_one, l.is_other) (abs_near _ _ _ (grays_near S l.one l.other (min n S) some l.one_in l.other_in (held_near S n y z l)))

module _ (S : ℕ) (some : 1 ≤ S) (room : S ≤ 9223372036854775807) (s t p : List ℕ) (drive : Drive) (black : Bool) {n : ℕ} (paired : Paired (setting_phases s p drive) (setting_phases t p drive) n)
    (x y m : ℕ) (hx : x ≤ S) (hy : y ≤ S) (near : Near x y m) where
  whole_left : TwoResults S (m + n) (apply_t (whole_transfer s p drive (pos S) black) (pos x)) (apply_t (whole_transfer t p drive (pos S) black) (pos y))
  whole_left =
      record {
        one = drives S (all_drives black (setting_phases s p drive)) x;
        other = drives S (all_drives black (setting_phases t p drive)) y;
        is_one = whole_exact S some room s p drive black x hx;
        is_other = whole_exact S some room t p drive black y hy;
        one_in = drives_le S _ x hx;
        other_in = drives_le S _ y hy;
        near = whole_near S black paired hx hy near;
      }

  cut_left : (until : ℕ) → until < largest 64 → TwoResults S (m + n) (apply_t (cut_transfer s p drive (pos S) black until) (pos x)) (apply_t (cut_transfer t p drive (pos S) black until) (pos y))
  cut_left until h =
      record {
        one = drives S (cut_drives black until (setting_phases s p drive)) x;
        other = drives S (cut_drives black until (setting_phases t p drive)) y;
        is_one = cut_exact S some room s p drive black until x h hx;
        is_other = cut_exact S some room t p drive black until y h hy;
        one_in = drives_le S _ x hx;
        other_in = drives_le S _ y hy;
        near = cut_near S black paired until hx hy near;
      }

  paired_left : (until : Option ℕ) → TwoResults S (m + n) (apply_t (setting_transfer s p drive (pos S) black until) (pos x)) (apply_t (setting_transfer t p drive (pos S) black until) (pos y))
  unfolding whole_transfer cut_transfer
  paired_left None = whole_left
  paired_left (Some until) = by (dec_lt until (largest 64))
    where
      by : Dec (until < largest 64) → TwoResults S (m + n) (apply_t (cut_transfer s p drive (pos S) black until) (pos x)) (apply_t (cut_transfer t p drive (pos S) black until) (pos y))
      by (yes h) = cut_left until h
      by (no h) = rw (cut_late s p drive (pos S) black until (omega arith), cut_late t p drive (pos S) black until (omega arith)) whole_left

module _ (S : ℕ) (some : 1 ≤ S) (room : S ≤ 9223372036854775807) (p : List ℕ) (black : Bool) (until : Option ℕ) where
  -- what LUT `lut` of a setting leaves of the state x
  abbrev left : List ℕ → ℕ → ℕ → ℤ
  left s lut x = apply_t (setting_transfer s p (Lut lut) (pos S) black until) (pos x)

  -- two settings that are s but for the code of one voltage
  codes_left : (v : DrivingVoltage) (s t u : List ℕ) (before after : ℤ) → AgreeBut v s t → AgreeBut v s u
      → driving_millivolts v (get_or t (voltage_byte v) 0) ≡ Some before → driving_millivolts v (get_or u (voltage_byte v) 0) ≡ Some after → (lut x : ℕ) → x ≤ S
      → TwoResults S (shift_of (nat_abs (before -ℤ after)) v (waveform_of s p).groups lut) (left t lut x) (left u lut x)
  codes_left v s t u before after agree-t agree-u is-before is-after lut x h =
      let n = shift_of (nat_abs (before -ℤ after)) v (waveform_of s p).groups lut in
      subst (λ (k : ℕ). TwoResults S k (left t lut x) (left u lut x)) (zero-add n)
      (paired_left S some room t u p (Lut lut) black (setting_paired v s t u p before after agree-t agree-u is-before is-after lut) x x 0 h h
      (record { above = omega arith; below = omega arith }) until)

  pub codes_bounded : (v : DrivingVoltage) (s t u : List ℕ) (before after : ℤ) → AgreeBut v s t → AgreeBut v s u
      → driving_millivolts v (get_or t (voltage_byte v) 0) ≡ Some before → driving_millivolts v (get_or u (voltage_byte v) 0) ≡ Some after → (lut x : ℕ) → x ≤ S
      → nat_abs (left t lut x -ℤ left u lut x) ≤ bound_of S (nat_abs (before -ℤ after)) v (waveform_of s p).groups lut
  codes_bounded v s t u before after agree-t agree-u is-before is-after lut x h =
      apart_left S _ _ _ (codes_left v s t u before after agree-t agree-u is-before is-after lut x h)

  pub codes_grays : (v : DrivingVoltage) (s t u : List ℕ) (before after : ℤ) → AgreeBut v s t → AgreeBut v s u
      → driving_millivolts v (get_or t (voltage_byte v) 0) ≡ Some before → driving_millivolts v (get_or u (voltage_byte v) 0) ≡ Some after → (lut x : ℕ) → x ≤ S
      → nat_abs (pos (gray_z (left t lut x) (pos S)) -ℤ pos (gray_z (left u lut x) (pos S))) ≤ gray_steps S (bound_of S (nat_abs (before -ℤ after)) v (waveform_of s p).groups lut)
  codes_grays v s t u before after agree-t agree-u is-before is-after lut x h =
      grays_left S _ _ _ some (codes_left v s t u before after agree-t agree-u is-before is-after lut x h)

  -- two settings that agree at every place but the byte of one voltage, where both have a listed code: their results for one state are no
  -- farther apart than the smaller of S and the change in millivolts × frames × period, summed exactly over all phases of all repeats
  -- where exactly one of source and VCOM uses that voltage
  pub shift_bounded : (v : DrivingVoltage) (s t : List ℕ) (before after : ℤ) → AgreeBut v s t
      → driving_millivolts v (get_or s (voltage_byte v) 0) ≡ Some before → driving_millivolts v (get_or t (voltage_byte v) 0) ≡ Some after → (lut x : ℕ) → x ≤ S
      → nat_abs (apply_t (setting_transfer s p (Lut lut) (pos S) black until) (pos x) -ℤ apply_t (setting_transfer t p (Lut lut) (pos S) black until) (pos x))
      ≤ bound_of S (nat_abs (before -ℤ after)) v (waveform_of s p).groups lut
  shift_bounded v s t before after agree = codes_bounded v s s t before after (λ i h. refl) agree

  -- and the greys that the two show
  pub grays_bounded : (v : DrivingVoltage) (s t : List ℕ) (before after : ℤ) → AgreeBut v s t
      → driving_millivolts v (get_or s (voltage_byte v) 0) ≡ Some before → driving_millivolts v (get_or t (voltage_byte v) 0) ≡ Some after → (lut x : ℕ) → x ≤ S
      → nat_abs (pos (gray_z (left s lut x) (pos S)) -ℤ pos (gray_z (left t lut x) (pos S))) ≤ gray_steps S (bound_of S (nat_abs (before -ℤ after)) v (waveform_of s p).groups lut)
  grays_bounded v s t before after agree = codes_grays v s s t before after (λ i h. refl) agree

  -- two states under one setting, by a LUT or the border's fixed code
  pub states_near : (s : List ℕ) (drive : Drive) (x y : ℕ) → x ≤ S → y ≤ S
      → nat_abs (apply_t (setting_transfer s p drive (pos S) black until) (pos x) -ℤ apply_t (setting_transfer s p drive (pos S) black until) (pos y)) ≤ nat_abs (pos x -ℤ pos y)
  states_near s drive x y hx hy =
      let r = apart_left S _ _ _ (paired_left S some room s s p drive black (itself (setting_phases s p drive)) x y (nat_abs (pos x -ℤ pos y)) hx hy (near_abs x y) until) in
      omega arith
