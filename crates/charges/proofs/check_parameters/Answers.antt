-- `charges::check_parameters` meets its contract: the test of the periods, then that of the table.
use mathlib.Core.List.{[], ◌∷◌}
use Rattle.std.proofs.lemmas.Result.{err_from_is_err_and}
use Rattle.config.specs.Tests.{periods_test}
use Rattle.config.proofs.Answers.{stops_at, goes_past}
use Rattle.otp.specs.Table.{table_test}
use Rattle.charges.proofs.check_parameters.Goals as goal

pub returns-in_err-check_periods : goal.returns-in_err-check_periods
returns-in_err-check_periods c =
    let s = c.args in
    let p = err_from_is_err_and c.from_residual.result c.from_residual.ensures.1 in
    rw (p.1, p.2)
    (stops_at _ _ (periods_test s.frame_period ∷ []) (table_test s.otp.now ∷ []) _ c.in_err-check_periods.ensures)

pub returns : goal.returns
returns c =
    let s = c.args in
    goes_past _ (periods_test s.frame_period ∷ []) (table_test s.otp.now ∷ []) _ c.in_ok-check_periods.ensures c.check_table.ensures
