use mathlib.Core.Path.{◌≡◌}
use Prim.Native.Nat.{min}
use Rattle.numbers.specs.Saturation.{largest}
use Rattle.waveform.specs.Duration.{groups_ns}
use Rattle.duration.proofs.duration_ns.Given as goal

abbrev pub invariant-loop-group : goal.invariant-loop-group
invariant-loop-group l = l.total ≡ min (groups_ns l.group-items l.group-index) (largest 64)
