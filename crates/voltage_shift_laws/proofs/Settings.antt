-- Settings that differ in the code of one voltage have the same groups, and levels that differ in that voltage. Assumes nothing.
use Rattle.std.specs.Prelude.{Some}
use mathlib.Core.Path.{◌≡◌, sym, ap, subst}
use mathlib.Core.List.{List}
use Prim.Native.Nat.{ℕ, ◌+◌, ◌*◌, ◌/◌, ◌%◌, ◌<◌}
use native.Mathlib.Omega.{arith}
use lib.IntN.{ℤ, nat_abs, ◌-ℤ◌}
use lib.Dec.{eqb}
use lib.ListN.{get_or}
use Rattle.numbers.specs.Choice.{pick}
use Rattle.numbers.proofs.Painted.{tab_ext}
use Rattle.waveform.specs.declared.Drive.TheVariants.{Lut}
use Rattle.waveform.specs.declared.Waveform.{Waveform}
use Rattle.waveform.specs.Voltages.{levels_of}
use Rattle.waveform.specs.Setting.{code_in, codes_of, frame_rate_of, group_codes_of, timed, waveform_of}
use Rattle.waveform.specs.Phases.{phases_of}
use Rattle.waveform.specs.Exact.{setting_phases}
use Rattle.voltage_shift.specs.declared.DrivingVoltage.{DrivingVoltage}
use Rattle.voltage_shift.specs.declared.DrivingVoltage.TheVariants.{Vsh1, Vsh2, Vsl}
use Rattle.voltage_shift.specs.Shift.{voltage_byte, driving_millivolts, shift_of}
use Rattle.voltage_shift_laws.specs.Settings.{AgreeBut}
use Rattle.voltage_shift_laws.proofs.Paired.{Paired}
use Rattle.voltage_shift_laws.proofs.Levels.{with, waveform_paired}

-- no voltage's byte is below 106
not_below : (v : DrivingVoltage) (i : ℕ) → i < 106 → i ≡ voltage_byte v → ⊥
not_below Vsh1 i h e = omega arith
not_below Vsh2 i h e = omega arith
not_below Vsl i h e = omega arith

module _ (v : DrivingVoltage) (s t : List ℕ) (agree : AgreeBut v s t) where
  below : (i : ℕ) → i < 106 → get_or s i 0 ≡ get_or t i 0
  below i h = agree i (not_below v i h)

  rate_same : (g : ℕ) → g < 10 → frame_rate_of s g ≡ frame_rate_of t g
  unfolding frame_rate_of
  rate_same g h = ap (λ (b : ℕ). pick (eqb (g % 2) 0) (b / 16 % 16) (b % 16)) (below (100 + g / 2) (omega arith))

  codes_same : (g : ℕ) → g < 10 → codes_of s g ≡ codes_of t g
  unfolding codes_of
  codes_same g h = tab_ext 20 _ _ (λ k l. ap (λ (b : ℕ). code_in b (k % 4)) (below (10 * (k / 4) + g) (omega arith)))

  group_same : (g : ℕ) → g < 10 → group_codes_of s g ≡ group_codes_of t g
  unfolding group_codes_of
  group_same g h =
      rw (below (50 + 5 * g) (omega arith), below (51 + 5 * g) (omega arith), below (52 + 5 * g) (omega arith), below (53 + 5 * g) (omega arith), below (54 + 5 * g) (omega arith), rate_same g h, codes_same g h)

  pub groups_same : (p : List ℕ) → (waveform_of s p).groups ≡ (waveform_of t p).groups
  unfolding waveform_of
  groups_same p = tab_ext 10 _ _ (λ g h. ap (timed p) (group_same g h))

-- the levels of t are those of s with the one voltage set
levels_set : (v : DrivingVoltage) (s t : List ℕ) → AgreeBut v s t → (z : ℤ) → driving_millivolts v (get_or t (voltage_byte v) 0) ≡ Some z → levels_of t ≡ with v z (levels_of s)
unfolding levels_of
levels_set Vsh1 s t h z e = rw (e, h 107 (λ o. omega arith), h 108 (λ o. omega arith))
levels_set Vsh2 s t h z e = rw (e, h 106 (λ o. omega arith), h 108 (λ o. omega arith))
levels_set Vsl s t h z e = rw (e, h 106 (λ o. omega arith), h 107 (λ o. omega arith))

waveform_set : (v : DrivingVoltage) (s t p : List ℕ) → AgreeBut v s t → (z : ℤ) → driving_millivolts v (get_or t (voltage_byte v) 0) ≡ Some z
    → waveform_of t p ≡ record { groups = (waveform_of s p).groups; levels = with v z (levels_of s) }
unfolding waveform_of
waveform_set v s t p h z e = λ i. record { groups = sym (groups_same v s t h p) i; levels = levels_set v s t h z e i }

-- the phases of two settings that are s but for the voltage
pub setting_paired : (v : DrivingVoltage) (s t u p : List ℕ) (b a : ℤ) → AgreeBut v s t → AgreeBut v s u
    → driving_millivolts v (get_or t (voltage_byte v) 0) ≡ Some b → driving_millivolts v (get_or u (voltage_byte v) 0) ≡ Some a → (lut : ℕ)
    → Paired (setting_phases t p (Lut lut)) (setting_phases u p (Lut lut)) (shift_of (nat_abs (b -ℤ a)) v (waveform_of s p).groups lut)
setting_paired v s t u p b a ht hu et eu lut =
    subst (λ (w : Waveform). Paired (phases_of w (Lut lut)) (setting_phases u p (Lut lut)) (shift_of (nat_abs (b -ℤ a)) v (waveform_of s p).groups lut)) (sym (waveform_set v s t p ht b et))
    (subst (λ (w : Waveform). Paired (phases_of (record { groups = (waveform_of s p).groups; levels = with v b (levels_of s) }) (Lut lut)) (phases_of w (Lut lut)) (shift_of (nat_abs (b -ℤ a)) v (waveform_of s p).groups lut))
    (sym (waveform_set v s u p hu a eu))
    (waveform_paired v b a (levels_of s) lut (waveform_of s p).groups))
