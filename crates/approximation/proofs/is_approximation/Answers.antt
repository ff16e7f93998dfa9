-- `approximation::is_approximation` meets its contract.
use Rattle.std.proofs.lemmas.Result.{err_from_is_err_and}
use Rattle.approximation.specs.Approximation.{outcome_of}
use Rattle.approximation.proofs.Approximations.{refused_is, answered_is}
use Rattle.approximation.proofs.is_approximation.Goals as goal

pub returns-in_err-check_table : goal.returns-in_err-check_table
unfolding outcome_of
returns-in_err-check_table c =
    let s = c.args in
    let p = err_from_is_err_and c.from_residual.result c.from_residual.ensures.1 in
    rw (p.1, p.2) (refused_is s.config s.otp.now _ _ c.in_err-check_table.ensures)

pub returns : goal.returns
unfolding outcome_of
returns c =
    let s = c.args in
    answered_is s.config s.otp.now _ _ _ _ c.in_ok-check_table.ensures c.is_approximate-glass.ensures
    c.is_approximate-durations.ensures c.any_approximate_entry-entries.ensures
