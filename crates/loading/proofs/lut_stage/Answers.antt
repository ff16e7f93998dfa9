-- `loading::lut_stage` meets its contract.
use Rattle.stages.specs.Run.{step, through, waited}
use Rattle.stages.specs.Stages.{lut_loaded}
use Rattle.stages.specs.declared.Run.{Run}
use Rattle.numbers.proofs.Cases.{took, passed}
use mathlib.Core.Path.{refl, ap, ◌∙◌}
use Rattle.loading.proofs.lut_stage.Goals as goal

pub returns-then-run : goal.returns-then-run
unfolding lut_loaded
returns-then-run c = took _ _ _ _ c.if-wanted.true (took _ _ _ _ c.if-run.true (ap (λ (r : Run). step r c.load_lut-found.new.log) c.wait.ensures ∙ ap (through (waited _)) c.load_lut-found.ensures))

pub returns-then-wanted : goal.returns-then-wanted
unfolding lut_loaded
returns-then-wanted c = took _ _ _ _ c.if-wanted.true (passed _ _ _ _ c.if-run.false c.note.ensures)

pub returns : goal.returns
unfolding lut_loaded
returns c = passed _ _ _ _ c.if-wanted.false refl
