use mathlib.Core.Path.{◌≡◌}
use lib.ListN.{take}
use Rattle.hash.specs.Hash.{hash_from, state_bytes}
use Rattle.hash.proofs.of_states.Given as goal

abbrev pub invariant-loop-state : goal.invariant-loop-state
invariant-loop-state l = l.hash ≡ hash_from 0 (state_bytes (take l.state-index l.states))
