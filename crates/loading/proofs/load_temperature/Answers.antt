-- `loading::load_temperature` meets its contract.
use Rattle.stages.specs.Run.{step, through, waited}
use Rattle.stages.specs.Stages.{sensed}
use Rattle.stages.proofs.Cases.{reads, reads_none}
use Rattle.stages.specs.declared.Run.{Run}
use Rattle.numbers.proofs.Cases.{took, passed}
use borrow.Author.Tests.{eq-eqb, ne_eqb}
use mathlib.Core.Path.{ap, ◌∙◌}
use Rattle.loading.proofs.load_temperature.Goals as goal

pub returns-then-sensor-eq-INTERNAL_SENSOR : goal.returns-then-sensor-eq-INTERNAL_SENSOR
unfolding sensed
returns-then-sensor-eq-INTERNAL_SENSOR c = took _ _ _ _ (eq-eqb _ _ c.if-sensor-eq-INTERNAL_SENSOR.true) (ap (λ (r : Run). step r c.args.log.now) c.wait.ensures)

pub returns-in-Some : goal.returns-in-Some
unfolding sensed
returns-in-Some c = passed _ _ _ _ (ne_eqb _ _ c.if-sensor-eq-INTERNAL_SENSOR.false) (reads _ _ _ _ _ _ c.in-Some.is (ap (λ (r : Run). step r c.args.log.now) c.wait-in-Some.ensures))

pub returns-in-None : goal.returns-in-None
unfolding sensed
returns-in-None c = passed _ _ _ _ (ne_eqb _ _ c.if-sensor-eq-INTERNAL_SENSOR.false) (reads_none _ _ _ _ _ c.in-None.is (ap (λ (r : Run). step r c.note-next.new.log) c.wait-in-None.ensures ∙ ap (through (waited _)) c.note-next.ensures))
