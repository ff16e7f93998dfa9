-- `loading::analog_on` meets its contract.
use Rattle.stages.specs.Run.{step}
use Rattle.stages.specs.Stages.{analog_on}
use Rattle.stages.specs.declared.Run.{Run}
use Rattle.numbers.proofs.Cases.{took, passed}
use mathlib.Core.Path.{refl, ap}
use Rattle.loading.proofs.analog_on.Goals as goal

pub returns-then-run : goal.returns-then-run
unfolding analog_on
returns-then-run c = took _ _ _ _ c.if-wanted-run.true (took _ _ _ _ c.if-run.true (ap (λ (r : Run). step r c.args.log.now) c.wait.ensures))

pub returns-then-wanted-run : goal.returns-then-wanted-run
unfolding analog_on
returns-then-wanted-run c = took _ _ _ _ c.if-wanted-run.true (passed _ _ _ _ c.if-run.false c.note.ensures)

pub returns : goal.returns
unfolding analog_on
returns c = passed _ _ _ _ c.if-wanted-run.false refl
