-- `guard_lengths::fits` meets its contract: by whether the buffer is lent.
use Rattle.guard_lengths.specs.Lengths.{fits}
use Rattle.guard_lengths.proofs.fits.Goals as goal

pub returns-in-None : goal.returns-in-None
unfolding fits
returns-in-None c = rw c.in-None.is

pub returns-in-Some : goal.returns-in-Some
unfolding fits
returns-in-Some c = rw c.in-Some.is
