-- `hash::Hash::add_word` meets its contract.
use mathlib.Core.Path.{ap, ◌∙◌}
use Prim.Native.Nat.{ℕ, ◌/◌}
use Rattle.hash.specs.Hash.{step_of}
use Rattle.hash.proofs.Hash.add_word.Goals as goal

pub returns : goal.returns
returns c = c.add-2.ensures ∙ ap (λ (n : ℕ). step_of n (c.args.word / 256)) c.add.ensures
