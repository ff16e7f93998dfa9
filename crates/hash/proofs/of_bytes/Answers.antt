-- `hash::of_bytes` meets its contract: the hash is that of what was gone over.
use mathlib.Core.Path.{◌∙◌}
use mathlib.Core.List.{List}
use Prim.Native.Nat.{ℕ}
use native.Mathlib.Omega.{arith}
use Rattle.hash.specs.Hash.{hash_from}
use Rattle.hash.proofs.Laws.{turn, all, bytes_more}
use Rattle.hash.proofs.of_bytes.Goals as goal

pub loop-byte-init : goal.loop-byte-init
unfolding hash_from
loop-byte-init c = c.new-hash.ensures

pub loop-byte-preserved : goal.loop-byte-preserved
unfolding hash_from
loop-byte-preserved c =
    let l = c.loop-byte in
    turn (λ (l : List ℕ). l) bytes_more c.args.bytes.now l.byte-index 0 (omega arith) l.invariant c.add.ensures

pub returns : goal.returns
returns c =
    let l = c.loop-byte in
    c.value.ensures ∙ all (λ (l : List ℕ). l) bytes_more c.args.bytes.now l.byte-index (omega arith) l.invariant
