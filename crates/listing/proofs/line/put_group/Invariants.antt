use mathlib.Core.Path.{◌≡◌}
use Rattle.waveform.specs.Phases.{joined}
use Rattle.column.specs.Columns.{gathered}
use Rattle.listing.specs.Listing.{phase_text, room}
use Rattle.listing.proofs.line.put_group.Given as goal

abbrev pub invariant-loop-phase : goal.invariant-loop-phase
invariant-loop-phase l = l.text ≡ gathered room l.initial.text (joined l.phase (phase_text l.levels l.group l.number))
