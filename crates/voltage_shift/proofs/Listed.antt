-- What a code of a voltage stands for lies from −17,000 to 17,000 millivolts, as the voltages of a setting with that code do. Assumes nothing.
use mathlib.Core.List.{[], ◌∷◌, ◌++◌}
use Prim.Native.Nat.{ℕ}
use lib.ListN.{replicate}
use Rattle.waveform.specs.Voltages.{or_zero, levels_of, Listable}
use Rattle.waveform_laws.proofs.Decoded.{levels_listable}
use Rattle.voltage_shift.specs.declared.DrivingVoltage.{DrivingVoltage}
use Rattle.voltage_shift.specs.declared.DrivingVoltage.TheVariants.{Vsh1, Vsh2, Vsl}
use Rattle.voltage_shift.specs.Shift.{driving_millivolts}

pub driving_listable : (v : DrivingVoltage) (code : ℕ) → Listable (or_zero (driving_millivolts v code))
unfolding levels_of
driving_listable Vsh1 code = (levels_listable (replicate 106 0 ++ (code ∷ []))).vsh1_listable
driving_listable Vsh2 code = (levels_listable (replicate 107 0 ++ (code ∷ []))).vsh2_listable
driving_listable Vsl code = (levels_listable (replicate 108 0 ++ (code ∷ []))).vsl_listable
