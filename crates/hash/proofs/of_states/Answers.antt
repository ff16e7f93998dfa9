-- `hash::of_states` meets its contract: the hash is that of what was gone over.
use mathlib.Core.Path.{ap, ◌∙◌}
use mathlib.Core.List.{[], ◌∷◌}
use lib.IntN.{ℤ, pos}
use lib.ListN.{get_or}
use Rattle.numbers.proofs.Lin.{field_back}
use native.Mathlib.Omega.{arith}
use Rattle.hash.specs.Hash.{hash_from, state_bytes}
use Rattle.hash.proofs.Laws.{turn, all, states_more}
use Rattle.hash.proofs.of_states.Goals as goal

pub loop-state-init : goal.loop-state-init
unfolding hash_from state_bytes
loop-state-init c = c.new-hash.ensures

pub loop-state-preserved : goal.loop-state-preserved
unfolding hash_from state_bytes
loop-state-preserved c =
    let l = c.loop-state in
    turn state_bytes states_more c.args.states.now l.state-index (pos 0) (omega arith) l.invariant
    (c.add_state.ensures ∙ ap (λ (z : ℤ). hash_from l.hash (state_bytes (z ∷ []))) (field_back (get_or c.args.states.now l.state-index (pos 0)) (omega arith)))

pub returns : goal.returns
returns c =
    let l = c.loop-state in
    c.value.ensures ∙ all state_bytes states_more c.args.states.now l.state-index (omega arith) l.invariant
