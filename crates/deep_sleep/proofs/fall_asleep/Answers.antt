-- `deep_sleep::fall_asleep` meets its contract.
use Rattle.acts.specs.Acts.{asleep}
use Rattle.deep_sleep.proofs.fall_asleep.Goals as goal

pub returns : goal.returns
unfolding asleep
returns c = c.set_slept.ensures
