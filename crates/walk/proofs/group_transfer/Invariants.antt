use mathlib.Core.Path.{◌≡◌}
use mathlib.Core.List.{foldl}
use Rattle.waveform.specs.Phases.{phases_in, joined}
use Rattle.waveform.specs.Walks.{whole_step}
use Rattle.walk.proofs.group_transfer.Given as goal

abbrev pub invariant-loop : goal.invariant-loop
invariant-loop l = l.moved ≡ foldl (whole_step l.driving) l.initial.moved (joined l.counter (λ j. phases_in l.first.phase l.second.phase l.third.phase l.fourth.phase))
