-- `loading::clock_on` meets its contract.
use Rattle.stages.specs.Stages.{clock_on}
use Rattle.numbers.proofs.Cases.{took, passed}
use mathlib.Core.Path.{refl}
use Rattle.loading.proofs.clock_on.Goals as goal

pub returns-then-wanted-run : goal.returns-then-wanted-run
unfolding clock_on
returns-then-wanted-run c = took _ _ _ _ c.if-wanted-run.true c.wait.ensures

pub returns : goal.returns
unfolding clock_on
returns c = passed _ _ _ _ c.if-wanted-run.false refl
