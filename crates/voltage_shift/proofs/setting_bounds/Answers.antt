-- `voltage_shift::setting_bounds` meets its contract.
use mathlib.Core.Path.{◌≡◌, refl, sym, ap, ◌∙◌}
use mathlib.Core.Logic.{◌≢◌}
use mathlib.Core.Bool.{Bool, true, false, not, ◌&&◌, ◌||◌}
use mathlib.Core.List.{List}
use Prim.Native.Nat.{ℕ}
use native.Mathlib.Omega.{arith}
use lib.ListN.{length}
use Rattle.std.proofs.lemmas.Bool.{ne_eqb}
use Rattle.numbers.specs.Choice.{pick}
use Rattle.voltage.specs.Codes.{is_voltage}
use Rattle.waveform.specs.Setting.{waveform_of}
use Rattle.config.specs.Answer.{accepted, refused, first_of}
use Rattle.voltage_shift.specs.declared.DrivingVoltage.{DrivingVoltage}
use Rattle.voltage_shift.specs.declared.Shifts.{Shifts}
use Rattle.voltage_shift.specs.Shift.{driving_millivolts}
use Rattle.voltage_shift.specs.Bounds.{setting_tests, lut_shifts, ShiftAnswer, shifting, refusing, shifting_unless, shift_refusal, shift_answer}
use Rattle.voltage_shift.proofs.setting_bounds.Goals as goal

module _ (s : List ℕ) (v : DrivingVoltage) (before after : ℕ) (x : Shifts) where
  -- 11 before 91
  short : length s ≢ 112 → refusing (refused 11 0) ≡ shifting_unless (first_of (setting_tests s v before after)) x
  unfolding first_of
  short n = rw (ne_eqb (length s) 112 n)

  -- by what the calls found of the two codes
  decided : {b a : Bool} → length s ≡ 112 → b ≡ is_voltage (driving_millivolts v before) → a ≡ is_voltage (driving_millivolts v after)
      → (o : ShiftAnswer) → o ≡ pick (b && a) (shifting x) (refusing (refused 91 0)) → o ≡ shifting_unless (first_of (setting_tests s v before after)) x
  unfolding first_of
  decided {b} {a} h e f o k = k ∙ rw (h, sym e, sym f) (by b a)
    where
      by : (b a : Bool) → pick (b && a) (shifting x) (refusing (refused 91 0)) ≡ shifting_unless (pick (not b || not a) (refused 91 0) accepted) x
      by true true = refl
      by true false = refl
      by false a = refl

pub lut_shifts-requires : goal.lut_shifts-requires
lut_shifts-requires c = (omega (arith, c.swing_of-swing.ensures), omega (arith, c.swing_of-swing.ensures))

pub returns-in_default : goal.returns-in_default
unfolding shift_answer shift_refusal
returns-in_default c =
    let a = c.args in
    short a.setting.now a.driving a.before a.after _ c.in_default.ensures.1

pub returns-then-not-listed : goal.returns-then-not-listed
unfolding shift_answer shift_refusal
returns-then-not-listed c =
    let a = c.args in
    decided a.setting.now a.driving a.before a.after _ c.in-Ok.ensures.1.long c.is_listed.ensures c.is_listed-2.ensures _ (simp (c.if-not-listed.true))

pub returns : goal.returns
unfolding shift_answer
returns c =
    let a = c.args in
    let waveform = c.from_setting-waveform.ensures ∙ ap (λ (s : List ℕ). waveform_of s a.frame_period) c.in-Ok.ensures.1.same in
    ap shifting (c.lut_shifts.ensures ∙ (λ i. lut_shifts (c.swing_of-swing.ensures i) (c.change-millivolts.ensures i) a.driving (waveform i).groups))
    ∙ decided a.setting.now a.driving a.before a.after _ c.in-Ok.ensures.1.long c.is_listed.ensures c.is_listed-2.ensures _ (simp (c.if-not-listed.false))
