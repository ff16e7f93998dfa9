-- `voltage_shift::bounds` meets its contract: the tests of each call, one list after the other.
use mathlib.Core.Path.{◌≡◌, refl, sym, ap, ◌∙◌}
use mathlib.Core.Bool.{Bool, true, false, true≢false}
use mathlib.Core.List.{[], ◌∷◌}
use Prim.Native.Nat.{◌≤◌}
use native.Mathlib.Omega.{arith}
use lib.Dec.{eqb}
use borrow.Author.Tests.{eqb-false}
use Rattle.numbers.specs.Choice.{pick}
use Rattle.glass.specs.declared.Optics.{Optics}
use Rattle.std.specs.Prelude.{Err}
use Rattle.std.proofs.lemmas.Result.{err_from_is_err_and}
use Rattle.config.specs.declared.ConfigError.{ConfigError}
use Rattle.config.specs.Answer.{Answer, accepted, refused, is_accepted, first_of, refused_by, answer_of}
use Rattle.config.specs.Tests.{swing_test, periods_test}
use Rattle.config.proofs.Answers.{stops_at, goes_past, ok_accepted}
use Rattle.voltage_shift.specs.declared.Shifts.{Shifts}
use Rattle.voltage_shift.specs.Bounds.{setting_tests, shifts_for, ShiftAnswer, refusing, shifting_unless, bounds_of, shift_refusal, shift_answer}
use Rattle.voltage_shift.proofs.bounds.Goals as goal

refuses : (a b : Answer) (x : Shifts) → is_accepted a ≡ false → a ≡ b → refusing a ≡ shifting_unless b x
refuses accepted b x h e = absurd (true≢false h)
refuses (refused n v) b x h e = ap (λ (r : Answer). shifting_unless r x) e

passes : (a b : Answer) (x : Shifts) {o : ShiftAnswer} → o ≡ shifting_unless a x → a ≡ b → o ≡ shifting_unless b x
passes a b x h e = h ∙ ap (λ (r : Answer). shifting_unless r x) e

refuses_by : (error : ConfigError) → is_accepted (refused_by error) ≡ false
unfolding answer_of
refuses_by error = sym (ok_accepted Unit (Err error))

-- where 4 refuses nothing the full swing is from 1 on
some_swing : (o : Optics) → accepted ≡ first_of (swing_test o ∷ []) → 1 ≤ o.full_swing
unfolding first_of
some_swing o e = by (eqb o.full_swing 0) refl (sym (ap is_accepted e))
  where
    by : (t : Bool) → eqb o.full_swing 0 ≡ t → is_accepted (pick t (refused 4 0) accepted) ≡ true → 1 ≤ o.full_swing
    by true k l = absurd (true≢false (sym l))
    by false k l = omega (arith, eqb-false o.full_swing 0 k)

pub returns-in_err-check_swing : goal.returns-in_err-check_swing
unfolding bounds_of shift_answer shift_refusal answer_of
returns-in_err-check_swing c =
    let a = c.args in
    let r = setting_tests a.setting.now a.driving a.before a.after in
    let p = err_from_is_err_and c.from_residual.result c.from_residual.ensures.1 in
    rw (p.1, p.2)
    (refuses _ _ _ (refuses_by _) (stops_at Unit Unit (swing_test a.optics ∷ []) (periods_test a.frame_period ∷ r) _ c.in_err-check_swing.ensures))

pub returns-in_err-check_periods : goal.returns-in_err-check_periods
unfolding bounds_of shift_answer shift_refusal answer_of
returns-in_err-check_periods c =
    let a = c.args in
    let r = setting_tests a.setting.now a.driving a.before a.after in
    let p = err_from_is_err_and c.from_residual-in_err-check_periods.result c.from_residual-in_err-check_periods.ensures.1 in
    rw (p.1, p.2)
    (refuses _ _ _ (refuses_by _)
    (goes_past {A = Unit {0}} tt (swing_test a.optics ∷ []) (periods_test a.frame_period ∷ r) _ c.in_ok-check_swing.ensures
    (stops_at Unit Unit (periods_test a.frame_period ∷ []) r _ c.in_err-check_periods.ensures)))

pub setting_bounds-requires : goal.setting_bounds-requires
unfolding answer_of
setting_bounds-requires c = some_swing c.args.optics c.in_ok-check_swing.ensures

pub returns : goal.returns
unfolding bounds_of
returns c =
    let a = c.args in
    let r = setting_tests a.setting.now a.driving a.before a.after in
    passes (first_of r) _ (shifts_for a.optics a.frame_period a.setting.now a.driving a.before a.after) c.setting_bounds.ensures
    (goes_past _ (swing_test a.optics ∷ []) (periods_test a.frame_period ∷ r) _ c.in_ok-check_swing.ensures
    (goes_past _ (periods_test a.frame_period ∷ []) r _ c.in_ok-check_periods.ensures refl))
