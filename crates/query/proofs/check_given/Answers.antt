-- `query::check_given` meets its contract.
use mathlib.Core.Path.{ap}
use Rattle.query.specs.Outcome.{given_back}
use Rattle.query.proofs.check_given.Goals as goal

pub returns-in-Ok : goal.returns-in-Ok
returns-in-Ok c = ap (given_back c.args.state) c.in-Ok.ensures

pub returns-in-Err : goal.returns-in-Err
returns-in-Err c = ap (given_back c.args.state) c.in-Err.ensures
