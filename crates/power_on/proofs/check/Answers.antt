-- `power_on::check` meets its contract.
use Rattle.std.proofs.lemmas.Result.{err_from_is_err_and}
use Rattle.power_on.proofs.Cases.{passes, refuses_counts, refuses_buffer, refuses_parameters}
use Rattle.power_on.proofs.check.Goals as goal

pub returns-in_err-validate : goal.returns-in_err-validate
returns-in_err-validate c =
    let s = c.args in
    let p = err_from_is_err_and c.from_residual.result c.from_residual.ensures.1 in
    rw (p.1, p.2) (refuses_parameters s.config s.otp.now s.lengths _ c.in_err-validate.ensures)

pub returns-then-not-lengths_fit : goal.returns-then-not-lengths_fit
returns-then-not-lengths_fit c =
    let s = c.args in
    refuses_buffer s.config s.otp.now s.lengths _ c.in_ok-validate.ensures c.lengths_fit.ensures c.if-not-lengths_fit.true

pub returns-then-not-counts_fit : goal.returns-then-not-counts_fit
returns-then-not-counts_fit c =
    let s = c.args in
    refuses_counts s.config s.otp.now s.lengths _ c.in_ok-validate.ensures c.lengths_fit.ensures _ c.counts_fit.ensures c.if-not-lengths_fit.false c.if-not-counts_fit.true

pub returns : goal.returns
returns c =
    let s = c.args in
    passes s.config s.otp.now s.lengths _ c.in_ok-validate.ensures c.lengths_fit.ensures _ c.counts_fit.ensures c.if-not-lengths_fit.false c.if-not-counts_fit.false
