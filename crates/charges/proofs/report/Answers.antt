-- `charges::report` meets its contract: 5, 12, 81 and 11 in their order, then the text.
use mathlib.Core.Path.{sym, ap, ◌∙◌}
use mathlib.Core.Bool.{not}
use mathlib.Core.List.{List, [], ◌∷◌}
use Prim.Native.Nat.{ℕ, ◌*◌}
use lib.ListN.{length}
use borrow.Author.Tests.{eq-eqb, ne_eqb}
use Rattle.std.proofs.lemmas.Result.{err_from_is_err_and}
use Rattle.config.specs.Answer.{Test}
use Rattle.config.specs.Tests.{periods_test, lent_test}
use Rattle.otp.specs.Table.{entry_count, table_test}
use Rattle.charges.specs.Charge.{long_period_test, charge_refusal}
use Rattle.charges.specs.Report.{charge_text, reported_of}
use Rattle.charges.proofs.Answers.{none_long, at_first, at_long, at_lent, at_none}
use Rattle.charges.proofs.report.Goals as goal

-- ---- the tests
abbrev first : List ℕ → List ℕ → List Test
first periods table = periods_test periods ∷ table_test table ∷ []

abbrev lent : List ℕ → List ℕ → Test
lent out table = lent_test (length out) (88 * entry_count table)

pub returns-in_err-check_parameters : goal.returns-in_err-check_parameters
unfolding charge_refusal reported_of
returns-in_err-check_parameters c =
    let s = c.args in
    let t = s.otp.now in
    let p = err_from_is_err_and c.from_residual.result c.from_residual.ensures.1 in
    rw (p.1, p.2)
    (at_first _ (first s.frame_period t) (long_period_test s.frame_period) (lent s.out.now t) s.out.now (charge_text s.frame_period t) _ c.in_err-check_parameters.ensures)

pub returns-then-long_period : goal.returns-then-long_period
unfolding charge_refusal reported_of
returns-then-long_period c =
    let s = c.args in
    let t = s.otp.now in
    at_long _ (first s.frame_period t) (long_period_test s.frame_period) (lent s.out.now t) s.out.now (charge_text s.frame_period t) _ c.in_ok-check_parameters.ensures
    (sym c.has_long_period-long_period.ensures ∙ c.if-long_period.true)

pub returns-then-other_length : goal.returns-then-other_length
unfolding charge_refusal reported_of
returns-then-other_length c =
    let s = c.args in
    let t = s.otp.now in
    at_lent _ (first s.frame_period t) (long_period_test s.frame_period) (lent s.out.now t) s.out.now (charge_text s.frame_period t) _ c.in_ok-check_parameters.ensures
    (sym c.has_long_period-long_period.ensures ∙ c.if-long_period.false) (ap not (ne_eqb _ _ c.if-other_length.true))

pub put_text-requires : goal.put_text-requires
put_text-requires c =
    record {
      room = c.if-other_length.false;
      periods = none_long c.args.frame_period (sym c.has_long_period-long_period.ensures ∙ c.if-long_period.false);
    }

pub returns : goal.returns
unfolding reported_of
returns c =
    let s = c.args in
    let t = s.otp.now in
    at_none _ (first s.frame_period t) (long_period_test s.frame_period) (lent s.out.now t) s.out.now (charge_text s.frame_period t) _ c.in_ok-check_parameters.ensures
    (sym c.has_long_period-long_period.ensures ∙ c.if-long_period.false) (ap not (eq-eqb _ _ c.if-other_length.false)) c.put_text.ensures
