-- The number of a stage is that of its variant in order. Assumes nothing.
use mathlib.Core.Path.{◌≡◌, refl}
use denote.Enum.Declared.{tag_of}
use Rattle.diagnostic.specs.contracts.Stage as stage
use Rattle.diagnostic.specs.declared.Stage.{Stage}
use Rattle.diagnostic.specs.declared.Stage.TheVariants.{AnalogOn, TemperatureLoad, LutLoad, Display, HvReadyDetection, VciDetection, VcomSense}
use Rattle.diagnostic.specs.Record.{stage_number}

pub stage_is : (s : Stage) → tag_of stage.the_type s ≡ stage_number s
stage_is AnalogOn = refl
stage_is TemperatureLoad = refl
stage_is LutLoad = refl
stage_is Display = refl
stage_is HvReadyDetection = refl
stage_is VciDetection = refl
stage_is VcomSense = refl
