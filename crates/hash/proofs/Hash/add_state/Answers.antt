-- `hash::Hash::add_state` meets its contract.
use mathlib.Core.Path.{◌≡◌, sym, ap, ◌∙◌}
use mathlib.Core.List.{[], ◌++◌}
use Prim.Native.Nat.{ℕ, ◌/◌, ◌^◌}
use Rattle.numbers.proofs.Lin.{back}
use Rattle.hash.specs.Hash.{hash_from, pattern_of, four_of, state_bytes}
use Rattle.hash.proofs.Laws.{hash_more}
use Rattle.hash.proofs.Hash.add_state.Goals as goal

halves : (h : ℕ) {n m a r : ℕ} → n ≡ m → a ≡ hash_from h (four_of n) → r ≡ hash_from a (four_of (n / 2 ^ 32)) → r ≡ hash_from h (four_of m ++ four_of (m / 2 ^ 32) ++ [])
halves h {n} {m} e ea er =
    er ∙ (λ i. hash_from ((ea ∙ ap (λ (k : ℕ). hash_from h (four_of k)) e) i) (four_of (e i / 2 ^ 32))) ∙ sym (hash_more h (four_of m) (four_of (m / 2 ^ 32) ++ []))

pub returns : goal.returns
unfolding state_bytes
returns c = halves c.args.self.now (c.pattern-n.ensures ∙ ap pattern_of (back c.ranges.state)) c.add_four.ensures c.add_four-2.ensures
