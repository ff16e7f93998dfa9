-- `hash::of_counts` meets its contract: the hash is that of what was gone over.
use mathlib.Core.Path.{ap, ◌∙◌}
use Prim.Native.Nat.{ℕ}
use native.Mathlib.Omega.{arith}
use Rattle.hash.specs.Hash.{hash_from, four_of, count_bytes}
use Rattle.hash.proofs.Laws.{turn, all, counts_more}
use Rattle.hash.proofs.of_counts.Goals as goal

pub loop-count-init : goal.loop-count-init
unfolding hash_from count_bytes
loop-count-init c = c.new-hash.ensures

pub loop-count-preserved : goal.loop-count-preserved
unfolding hash_from count_bytes
loop-count-preserved c =
    let l = c.loop-count in
    turn count_bytes counts_more c.args.counts.now l.count-index 0 (omega arith) l.invariant
    (c.add_four.ensures ∙ ap (λ (n : ℕ). hash_from l.hash (four_of n)) c.from.ensures)

pub returns : goal.returns
returns c =
    let l = c.loop-count in
    c.value.ensures ∙ all count_bytes counts_more c.args.counts.now l.count-index (omega arith) l.invariant
