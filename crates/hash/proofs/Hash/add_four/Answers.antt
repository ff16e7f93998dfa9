-- `hash::Hash::add_four` meets its contract: four bytes, one after the other.
use mathlib.Core.Path.{ap, ◌∙◌}
use Prim.Native.Nat.{ℕ, ◌/◌, ◌%◌}
use Rattle.hash.specs.Hash.{step_of, hash_from}
use Rattle.hash.proofs.Hash.add_four.Goals as goal

pub returns : goal.returns
unfolding hash_from
returns c =
    let n = c.args.n in
    c.add-4.ensures
    ∙ ap (λ (h : ℕ). step_of h (n / 16777216 % 256))
    (c.add-3.ensures ∙ ap (λ (h : ℕ). step_of h (n / 65536 % 256)) (c.add-2.ensures ∙ ap (λ (h : ℕ). step_of h (n / 256 % 256)) c.add.ensures))
