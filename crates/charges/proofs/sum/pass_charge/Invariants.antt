use mathlib.Core.Path.{◌≡◌}
use mathlib.Core.List.{List}
use Prim.Native.Nat.{ℕ}
use Rattle.waveform.specs.declared.Driving.{Driving}
use Rattle.waveform.specs.declared.Group.{Group}
use Rattle.waveform.specs.declared.Phase.{Phase}
use Rattle.waveform.specs.Phases.{driven, joined}
use Rattle.waveform.specs.Walks.{phase_in}
use Rattle.charges.specs.Charge.{drive_sum}
use Rattle.charges.proofs.sum.pass_charge.Given as goal

abbrev pub phases_in : Driving → Group → ℕ → List Phase
phases_in d g k = driven (phase_in d g k)

-- the sum is kept as its bits
abbrev pub invariant-loop-phase : goal.invariant-loop-phase
invariant-loop-phase l = (l.sum ≡ drive_sum (joined l.phase (phases_in l.driving l.group)))
