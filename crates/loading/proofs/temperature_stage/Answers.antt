-- `loading::temperature_stage` meets its contract.
use Rattle.stages.specs.Stages.{temperature_loaded}
use Rattle.numbers.proofs.Cases.{took, passed}
use mathlib.Core.Path.{refl}
use Rattle.loading.proofs.temperature_stage.Goals as goal

pub returns-then-run : goal.returns-then-run
unfolding temperature_loaded
returns-then-run c = took _ _ _ _ c.if-wanted.true (took _ _ _ _ c.if-run.true c.load_temperature.ensures)

pub returns-then-wanted : goal.returns-then-wanted
unfolding temperature_loaded
returns-then-wanted c = took _ _ _ _ c.if-wanted.true (passed _ _ _ _ c.if-run.false c.note.ensures)

pub returns : goal.returns
unfolding temperature_loaded
returns c = passed _ _ _ _ c.if-wanted.false refl
