use mathlib.Core.Path.{◌≡◌}
use mathlib.Core.List.{List, foldl}
use Prim.Native.Nat.{ℕ, ◌≤◌, ◌-◌}
use Rattle.waveform.specs.declared.Driving.{Driving}
use Rattle.waveform.specs.declared.Phase.{Phase}
use Rattle.waveform.specs.Phases.{driven, joined}
use Rattle.waveform.specs.Walks.{phase_in, whole_step}
use Rattle.combine.specs.Groups.{timed_group}
use Rattle.combine.proofs.pass.Given as goal

-- the driven phases of a group, by their places
abbrev pub of : Driving → List ℕ → List ℕ → ℕ → ℕ → List Phase
of d s p group at = driven (phase_in d (timed_group s p group) at)

abbrev pub invariant-loop-at : goal.invariant-loop-at
invariant-loop-at l = (l.at ≤ 4) × (l.moved ≡ foldl (whole_step l.driving) l.initial.moved (joined l.at (of l.driving l.setting l.frame_period l.group)))
