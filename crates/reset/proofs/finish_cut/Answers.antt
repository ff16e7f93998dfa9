-- `reset::finish_cut` meets its contract.
use Rattle.reset.proofs.Cases.{shortens}
use Rattle.reset.proofs.finish_cut.Goals as goal

pub returns : goal.returns
returns c = shortens _ _ _ _ _ _ c.ns_between-into.ensures c.finish-finished.ensures c.set_glass.ensures
