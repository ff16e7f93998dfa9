-- What `bounds` answers by its contract (#112): `Learnt` is what the checker reads off its `ensures` in the source, of the arguments a, the
-- answer r and the arguments at the end s. Weaken that `ensures`, and more answers are among these.
use Rattle.std.specs.Prelude.{ℕ, List, Result}
use contract.Lifetimes.{Lfts}
use Rattle.glass.specs.declared.Optics.{Optics}
use Rattle.voltage_shift.specs.declared.DrivingVoltage.{DrivingVoltage}
use Rattle.voltage_shift.specs.declared.ShiftError.{ShiftError}
use Rattle.voltage_shift.specs.declared.Shifts.{Shifts}
use Rattle.voltage_shift.proofs.bounds.Reads as bounds-reads

-- handed optics, frame periods, a setting, a voltage and its codes before and after, and what it answered
pub data BoundsAnswers : Optics → List ℕ → List ℕ → DrivingVoltage → ℕ → ℕ → Result Shifts ShiftError → Type 0 where
  bounds : (κs : Lfts 1) (a : _) (r : _) (s : _) → bounds-reads.Learnt κs a r s
      → BoundsAnswers a.0 a.1.0 a.1.1.0.now a.1.1.1.0 a.1.1.1.1.0 a.1.1.1.1.1.0 r
