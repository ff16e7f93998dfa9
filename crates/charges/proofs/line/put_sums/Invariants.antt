use mathlib.Core.Path.{◌≡◌}
use Rattle.waveform.specs.declared.Drive.TheVariants.{Lut}
use Rattle.waveform.specs.Phases.{phases_of, joined}
use Rattle.column.specs.Columns.{whole, gathered}
use Rattle.charges.specs.Charge.{drive_sum}
use Rattle.charges.specs.Report.{charge_line_bytes}
use Rattle.charges.proofs.line.put_sums.Given as goal

abbrev pub invariant-loop-lut : goal.invariant-loop-lut
invariant-loop-lut l =
    l.line ≡ gathered charge_line_bytes l.initial.line (joined l.lut (λ k. whole 21 (drive_sum (phases_of l.waveform (Lut k)))))
