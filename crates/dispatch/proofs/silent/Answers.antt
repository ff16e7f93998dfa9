-- `dispatch::silent` meets its contract: by whether the call was refused.
use Rattle.std.proofs.lemmas.Result.{err_from_is_err_and}
use Rattle.dispatch.proofs.silent.Goals as goal

pub returns-in_err-state : goal.returns-in_err-state
returns-in_err-state c =
    let p = err_from_is_err_and c.from_residual.result c.from_residual.ensures.1 in
    rw (p.1, p.2, c.in_err-state.was)

pub returns : goal.returns
returns c = rw c.in_ok-state.was
