-- `charges::charge` meets its contract: 5, 81 and 11 in their order, then the sum.
use mathlib.Core.Path.{◌≡◌, sym, ap, subst, ◌∙◌}
use mathlib.Core.Bool.{not}
use mathlib.Core.List.{List, [], ◌∷◌}
use Prim.Native.Nat.{ℕ}
use native.Mathlib.Omega.{arith}
use lib.IntN.{ℤ, pos}
use lib.ListN.{length}
use borrow.Author.Tests.{eq-eqb, ne_eqb}
use Rattle.std.proofs.lemmas.Result.{err_from_is_err_and}
use Rattle.numbers.proofs.Lin.{got}
use Rattle.waveform.specs.declared.Drive.TheVariants.{Lut}
use Rattle.waveform.specs.declared.Waveform.{Waveform}
use Rattle.waveform.specs.Setting.{waveform_of}
use Rattle.waveform.specs.Phases.{phases_of}
use Rattle.config.specs.Answer.{Test}
use Rattle.config.specs.Tests.{periods_test, lent_test}
use Rattle.charges.specs.declared.PixelLut.{PixelLut}
use Rattle.charges.specs.Charge.{drive_sum, BoundedWaveform, charge_of, long_period_test, lut_number, charge_refusal, charged_of}
use Rattle.charges.proofs.Answers.{none_long, at_first, at_long, at_lent, at_none}
use Rattle.charges.proofs.Bounds.{setting_bounded}
use Rattle.charges.proofs.Luts.{lut_is, below_4}
use Rattle.charges.proofs.charge.Goals as goal

-- ---- the tests, and the sum
abbrev first : List ℕ → List Test
first periods = periods_test periods ∷ []

abbrev lent : List ℕ → Test
lent setting = lent_test (length setting) 112

abbrev sum : List ℕ → List ℕ → PixelLut → ℤ
sum setting periods lut = charge_of setting periods (lut_number lut)

pub returns-in_err-check_periods : goal.returns-in_err-check_periods
unfolding charge_refusal charged_of
returns-in_err-check_periods c =
    let s = c.args in
    let p = err_from_is_err_and c.from_residual.result c.from_residual.ensures.1 in
    rw (p.1, p.2)
    (at_first _ (first s.frame_period) (long_period_test s.frame_period) (lent s.setting.now) (pos 0) (sum s.setting.now s.frame_period s.lut) _ c.in_err-check_periods.ensures)

pub returns-then-has_long_period : goal.returns-then-has_long_period
unfolding charge_refusal charged_of
returns-then-has_long_period c =
    let s = c.args in
    at_long _ (first s.frame_period) (long_period_test s.frame_period) (lent s.setting.now) (pos 0) (sum s.setting.now s.frame_period s.lut) _ c.in_ok-check_periods.ensures
    (sym c.has_long_period.ensures ∙ c.if-has_long_period.true)

pub returns-in_default : goal.returns-in_default
unfolding charge_refusal charged_of
returns-in_default c =
    let s = c.args in
    at_lent _ (first s.frame_period) (long_period_test s.frame_period) (lent s.setting.now) (pos 0) (sum s.setting.now s.frame_period s.lut) _ c.in_ok-check_periods.ensures
    (sym c.has_long_period.ensures ∙ c.if-has_long_period.false) (ap not (ne_eqb _ _ (search c.in_default.ensures)))

pub charge_of-requires : goal.charge_of-requires
charge_of-requires c =
    let s = c.args in
    let same : c.in-Ok.setting.now ≡ s.setting.now = search c.in-Ok.ensures in
    record {
      lut = omega (arith, lut_is s.lut, below_4 s.lut);
      bounded = subst BoundedWaveform (sym (c.from_setting-waveform.ensures ∙ ap (λ (l : List ℕ). waveform_of l s.frame_period) same))
          (setting_bounded s.setting.now s.frame_period (λ i. omega (arith, c.type_inv.setting i))
          (none_long s.frame_period (sym c.has_long_period.ensures ∙ c.if-has_long_period.false)));
    }

of_setting : (p : List ℕ) (lut : PixelLut) {s t : List ℕ} {w : Waveform} {n : ℕ} → t ≡ s → w ≡ waveform_of t p → n ≡ lut_number lut
    → drive_sum (phases_of w (Lut n)) ≡ sum s p lut
of_setting p lut e f g = (λ i. drive_sum (phases_of (f i) (Lut (g i)))) ∙ ap (λ (l : List ℕ). sum l p lut) e

pub returns : goal.returns
unfolding charged_of
returns c =
    let s = c.args in
    at_none _ (first s.frame_period) (long_period_test s.frame_period) (lent s.setting.now) (pos 0) (sum s.setting.now s.frame_period s.lut) _ c.in_ok-check_periods.ensures
    (sym c.has_long_period.ensures ∙ c.if-has_long_period.false) (ap not (eq-eqb _ _ (search c.in-Ok.ensures)))
    (got c.charge_of.type_inv c.charge_of.ensures ∙ of_setting s.frame_period s.lut (search c.in-Ok.ensures) c.from_setting-waveform.ensures (lut_is s.lut))
