use mathlib.Core.Path.{◌≡◌}
use Rattle.waveform.specs.Phases.{joined}
use Rattle.column.specs.Columns.{whole, gathered}
use Rattle.listing.specs.Listing.{drive_of, room}
use Rattle.listing.proofs.line.put_drives.Given as goal

abbrev pub invariant-loop-lut : goal.invariant-loop-lut
invariant-loop-lut l = l.text ≡ gathered room l.initial.text (joined l.lut (λ k. whole 7 (drive_of l.levels l.group l.phase k)))
