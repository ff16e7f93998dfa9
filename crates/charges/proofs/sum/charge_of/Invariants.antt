use mathlib.Core.Path.{◌≡◌}
use Rattle.waveform.specs.declared.Drive.TheVariants.{Lut}
use Rattle.waveform.specs.Phases.{joined}
use Rattle.charges.specs.Charge.{drive_sum}
use Rattle.charges.proofs.Bounds.{groups_of}
use Rattle.charges.proofs.sum.charge_of.Given as goal

-- the sum is kept as its bits
abbrev pub invariant-loop-group : goal.invariant-loop-group
invariant-loop-group l = (l.sum ≡ drive_sum (joined l.group-index (groups_of l.fn.waveform (Lut l.lut))))
