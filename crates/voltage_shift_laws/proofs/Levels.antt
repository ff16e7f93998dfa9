-- The phases of a group under two sets of voltages of which one is changed. Assumes nothing.
use mathlib.Core.Path.{◌≡◌, refl, sym, ◌∙◌}
use mathlib.Core.Bool.{Bool, true, false, false≢true}
use mathlib.Core.List.{List}
use Prim.Native.Nat.{ℕ, ◌+◌, ◌*◌, ◌%◌}
use native.Mathlib.Omega.{arith}
use native.Mathlib.Nat.{zero-mul}
use lib.IntN.{ℤ, pos, nat_abs, ◌-ℤ◌}
use lib.Dec.{eqb}
use lib.ListN.{get_or}
use borrow.Author.Tests.{eqb-true}
use Rattle.numbers.specs.Choice.{pick}
use Rattle.numbers.proofs.Lin.{sub_out}
use Rattle.waveform.specs.declared.Drive.TheVariants.{Lut}
use Rattle.waveform.specs.declared.Group.{Group}
use Rattle.waveform.specs.declared.Levels.{Levels}
use Rattle.waveform.specs.Voltages.{source_level, vcom_swing}
use Rattle.waveform.specs.Phases.{no_group, phase_of, group_phases, phases_of}
use Rattle.voltage_shift.specs.declared.DrivingVoltage.{DrivingVoltage}
use Rattle.voltage_shift.specs.declared.DrivingVoltage.TheVariants.{Vsh1, Vsh2, Vsl}
use Rattle.voltage_shift.specs.Shift.{source_uses, vcom_uses, exactly_one, uses_one, phase_shift, group_shift, shift_of}
use Rattle.voltage_shift_laws.proofs.Apart.{Apart, apart_abs}
use Rattle.voltage_shift_laws.proofs.Paired.{PhasesApart, Paired, same, joined_paired, driven_paired}

-- the levels with one voltage set
abbrev pub with : DrivingVoltage → ℤ → Levels → Levels
with Vsh1 z l = record { vsh1 = z; vsh2 = l.vsh2; vsl = l.vsl }
with Vsh2 z l = record { vsh1 = l.vsh1; vsh2 = z; vsl = l.vsl }
with Vsl z l = record { vsh1 = l.vsh1; vsh2 = l.vsh2; vsl = z }

-- a third test taken first, where it excludes the two before it
third : {A : Type 0} (r s t : Bool) (a b z y o : A) → (r ≡ true → t ≡ true → ⊥) → (s ≡ true → t ≡ true → ⊥)
    → pick r a (pick s b (pick t z o)) ≡ pick t z (pick r a (pick s b (pick t y o)))
third r s false a b z y o h k = refl
third true s true a b z y o h k = absurd (h refl refl)
third false true true a b z y o h k = absurd (k refl refl)
third false false true a b z y o h k = refl

-- a number is not two
unlike : (n a b : ℕ) → (a ≡ b → ⊥) → eqb n a ≡ true → eqb n b ≡ true → ⊥
unlike n a b h e f = h (sym (eqb-true n a e) ∙ eqb-true n b f)

never : (t : Bool) → false ≡ true → t ≡ true → ⊥
never t e = absurd (false≢true e)

-- a source and VCOM have the voltage where they use it, and else what the other voltages give
source_is : (v : DrivingVoltage) (z : ℤ) (l : Levels) (code : ℕ) → source_level (with v z l) code ≡ pick (source_uses v code) z (source_level (with v (pos 0) l) code)
unfolding source_level source_uses
source_is Vsh1 z l code = third false false (eqb (code % 4) 1) (pos 0) (pos 0) z (pos 0) _ (never _) (never _)
source_is Vsh2 z l code = third (eqb (code % 4) 1) (eqb (code % 4) 2) (eqb (code % 4) 3) l.vsh1 l.vsl z (pos 0) (pos 0) (unlike (code % 4) 1 3 (λ e. omega arith)) (unlike (code % 4) 2 3 (λ e. omega arith))
source_is Vsl z l code = third (eqb (code % 4) 1) false (eqb (code % 4) 2) l.vsh1 (pos 0) z (pos 0) _ (unlike (code % 4) 1 2 (λ e. omega arith)) (never _)

vcom_is : (v : DrivingVoltage) (z : ℤ) (l : Levels) (code : ℕ) → vcom_swing (with v z l) code ≡ pick (vcom_uses v code) z (vcom_swing (with v (pos 0) l) code)
unfolding vcom_swing vcom_uses
vcom_is Vsh1 z l code = third false false (eqb (code % 4) 1) (pos 0) (pos 0) z (pos 0) _ (never _) (never _)
vcom_is Vsh2 z l code = refl
vcom_is Vsl z l code = third (eqb (code % 4) 1) false (eqb (code % 4) 2) l.vsh1 (pos 0) z (pos 0) (pos 0) (unlike (code % 4) 1 2 (λ e. omega arith)) (never _)

-- a source against VCOM, at b and at a: where both use the voltage it cancels
against : (s t : Bool) (b a o c : ℤ) → Apart (pick s b o -ℤ pick t b c) (pick s a o -ℤ pick t a c) (pick (exactly_one s t) (nat_abs (b -ℤ a)) 0)
against true true b a o c = let h = sub_out b b in let k = sub_out a a in record { above = omega arith; below = omega arith }
against true false b a o c = let h = sub_out b c in let k = sub_out a c in let n = apart_abs b a in record { above = omega arith; below = omega arith }
against false true b a o c = let h = sub_out o b in let k = sub_out o a in let n = apart_abs b a in record { above = omega arith; below = omega arith }
against false false b a o c = record { above = omega arith; below = omega arith }

module _ (v : DrivingVoltage) (b a : ℤ) (l : Levels) (lut : ℕ) where
  change : ℕ
  change = nat_abs (b -ℤ a)

  phases_apart : (g : Group) (k : ℕ) → PhasesApart (phase_of (with v b l) (Lut lut) g k) (phase_of (with v a l) (Lut lut) g k) (pick (uses_one v g lut k) change 0)
  unfolding phase_of change
  phases_apart g k =
      let i = get_or g.codes (4 * lut + k) 0 in
      let j = get_or g.codes (16 + k) 0 in
      record {
        frames = refl;
        period = refl;
        apart = rw (source_is v b l i, source_is v a l i, vcom_is v b l j, vcom_is v a l j) (against (source_uses v i) (vcom_uses v j) b a _ _);
      }

  out : (t : Bool) (n f p : ℕ) → pick t n 0 * f * p ≡ pick t (n * f * p) 0
  out true n f p = refl
  out false n f p = rw (zero-mul, zero-mul)

  group_paired : (g : Group) → Paired (group_phases (with v b l) (Lut lut) g) (group_phases (with v a l) (Lut lut) g) (group_shift change v g lut)
  unfolding group_shift phase_shift phase_of
  group_paired g =
      joined_paired g.repeats _ _ _
      (λ r.
      joined_paired 4 _ _ (phase_shift change v g lut)
      (λ k. same (out (uses_one v g lut k) change (get_or g.frames k 0) g.frame_ns) (driven_paired _ _ (phases_apart g k))))

  pub waveform_paired : (groups : List Group)
      → Paired (phases_of (record { groups = groups; levels = with v b l }) (Lut lut)) (phases_of (record { groups = groups; levels = with v a l }) (Lut lut)) (shift_of (nat_abs (b -ℤ a)) v groups lut)
  unfolding shift_of change
  waveform_paired groups = joined_paired 10 _ _ _ (λ k. group_paired (get_or groups k no_group))
