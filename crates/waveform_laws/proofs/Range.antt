-- The drive of every phase against VCOM lies from −34,000 to 34,000 millivolts. Assumes nothing.
use mathlib.Core.Bool.{Bool, true, false}
use Prim.Native.Nat.{ℕ, ◌%◌}
use lib.IntN.{ℤ, pos, negsuc, ◌-ℤ◌}
use lib.Signed.{◌≤ℤ◌}
use lib.Dec.{eqb}
use Rattle.numbers.specs.Choice.{pick}
use Rattle.numbers.proofs.Lin.{le_in, sub_out, whole}
use Rattle.waveform.specs.declared.Drive.{Drive}
use Rattle.waveform.specs.declared.Group.{Group}
use Rattle.waveform.specs.declared.Levels.{Levels}
use Rattle.waveform.specs.Voltages.{source_level, vcom_swing, Listable, AllListable}
use Rattle.waveform.specs.Phases.{phase_of}

pub no_volts : Listable (pos 0)
no_volts = record { low = le_in _ _ (omega whole); high = le_in _ _ (omega whole) }

either : (t : Bool) {u v : ℤ} → Listable u → Listable v → Listable (pick t u v)
either true h k = h
either false h k = k

pub source_listable : (l : Levels) (code : ℕ) → AllListable l → Listable (source_level l code)
unfolding source_level
source_listable l code h = either (eqb (code % 4) 1) h.vsh1_listable (either (eqb (code % 4) 2) h.vsl_listable (either (eqb (code % 4) 3) h.vsh2_listable no_volts))

pub vcom_listable : (l : Levels) (code : ℕ) → AllListable l → Listable (vcom_swing l code)
unfolding vcom_swing
vcom_listable l code h = either (eqb (code % 4) 1) h.vsh1_listable (either (eqb (code % 4) 2) h.vsl_listable no_volts)

-- the source's level less VCOM's
difference : {u v : ℤ} → Listable u → Listable v → (negsuc 33999 ≤ℤ (u -ℤ v)) × ((u -ℤ v) ≤ℤ pos 34000)
difference {u} {v} h k = let o = sub_out u v in (le_in _ _ (omega whole), le_in _ _ (omega whole))

-- a phase of any group under levels that the datasheet can list; those of a setting are (`Decoded.levels_listable`)
pub phase_range : (l : Levels) (drive : Drive) (g : Group) (k : ℕ) → AllListable l → (negsuc 33999 ≤ℤ (phase_of l drive g k).millivolts) × ((phase_of l drive g k).millivolts ≤ℤ pos 34000)
unfolding phase_of
phase_range l drive g k h = difference (source_listable l _ h) (vcom_listable l _ h)
