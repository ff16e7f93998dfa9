-- `loading::load` meets its contract.
use Rattle.stages.proofs.Cases.{loads}
use Rattle.loading.proofs.load.Goals as goal

pub returns : goal.returns
returns c = loads _ _ _ _ _ _ _ _ _ _ _ c.mode_of-mode.ensures c.clock_on-a.ensures c.analog_on-b.ensures c.temperature_stage-c.ensures c.lut_stage.ensures
