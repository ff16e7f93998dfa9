-- `voltage_shift::driving_millivolts` meets its contract.
use Rattle.std.specs.Prelude.{ℤ, Option}
use mathlib.Core.Path.{◌≡◌, sym, subst, ◌∙◌}
use Prim.Native.Nat.{ℕ}
use Rattle.waveform.specs.Voltages.{or_zero, Listable}
use Rattle.voltage_shift.specs.declared.DrivingVoltage.{DrivingVoltage}
use Rattle.voltage_shift.specs.Shift.{driving_millivolts}
use Rattle.voltage_shift.proofs.Listed.{driving_listable}
use Rattle.voltage_shift.proofs.driving_millivolts.Goals as goal

listed : (v : DrivingVoltage) (code : ℕ) {r : Option ℤ} → r ≡ driving_millivolts v code → (r ≡ driving_millivolts v code) × Listable (or_zero r)
listed v code e = (e, subst (λ (m : Option ℤ). Listable (or_zero m)) (sym e) (driving_listable v code))

pub returns-in-Vsh1 : goal.returns-in-Vsh1
returns-in-Vsh1 c = let s = c in let whole = listed s.args.driving s.args.code (c.source_millivolts.ensures ∙ rw c.in-Vsh1.is) in record { is = whole.0; range = whole.1 }

pub returns-in-Vsh2 : goal.returns-in-Vsh2
returns-in-Vsh2 c = let s = c in let whole = listed s.args.driving s.args.code (c.source_millivolts-in-Vsh2.ensures ∙ rw c.in-Vsh2.is) in record { is = whole.0; range = whole.1 }

pub returns-in-Vsl : goal.returns-in-Vsl
returns-in-Vsl c = let s = c in let whole = listed s.args.driving s.args.code (c.vsl_millivolts.ensures ∙ rw c.in-Vsl.is) in record { is = whole.0; range = whole.1 }
