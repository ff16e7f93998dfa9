use mathlib.Core.Path.{◌≡◌}
use mathlib.Core.List.{foldl}
use Rattle.waveform.specs.Phases.{phases_in, joined}
use Rattle.waveform.specs.Walks.{cut_step}
use Rattle.walk.proofs.cut_repeats.Given as goal

abbrev pub invariant-loop : goal.invariant-loop
invariant-loop l = l.moved ≡ foldl (cut_step l.driving l.until) l.initial.moved (joined l.counter (λ j. phases_in l.first.step.phase l.second.step.phase l.third.step.phase l.fourth.step.phase))
