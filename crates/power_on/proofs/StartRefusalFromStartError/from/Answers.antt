-- A refused start's number and value: by the case of the error.
use Rattle.power_on.specs.Start.{start_refused_by}
use Rattle.power_on.proofs.StartRefusalFromStartError.from.Goals as goal

pub returns-in-Parameters : goal.returns-in-Parameters
unfolding start_refused_by
returns-in-Parameters c = rw c.in-Parameters.is c.number_of_parameters.ensures

pub returns-in-Buffer : goal.returns-in-Buffer
unfolding start_refused_by
returns-in-Buffer c = rw c.in-Buffer.is

pub returns-in-Counts : goal.returns-in-Counts
unfolding start_refused_by
returns-in-Counts c = rw c.in-Counts.is
