-- `query::set_ambient` meets its contract.
use Rattle.query.proofs.Cases.{grants, refuses, sets}
use Rattle.query.specs.Queries.{ambient_set}
use Rattle.query.proofs.set_ambient.Goals as goal

pub returns-in-Ok : goal.returns-in-Ok
unfolding ambient_set
returns-in-Ok c = grants _ _ _ _ c.in-Ok.ensures (sets c.args.state _ _ _ c.with_ambient-config.ensures c.set_config.ensures)

pub returns-in-Err : goal.returns-in-Err
unfolding ambient_set
returns-in-Err c = refuses _ _ _ _ c.in-Err.ensures
