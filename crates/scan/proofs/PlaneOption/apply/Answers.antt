-- `scan::PlaneOption::apply` meets its contract, option by option.
use Rattle.scan.specs.Luts.{applied}
use Rattle.scan.proofs.PlaneOption.apply.Goals as goal

pub returns-in-Normal : goal.returns-in-Normal
unfolding applied
returns-in-Normal c = rw c.in-Normal.is

pub returns-in-Zero : goal.returns-in-Zero
unfolding applied
returns-in-Zero c = rw c.in-Zero.is

pub returns-in-Inverse : goal.returns-in-Inverse
unfolding applied
returns-in-Inverse c = rw c.in-Inverse.is
