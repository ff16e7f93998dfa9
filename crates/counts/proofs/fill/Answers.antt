-- `counts::fill` meets its contract. Assumes nothing.
use mathlib.Core.Path.{ap, ◌∙◌}
use mathlib.Core.List.{List}
use Prim.Native.Nat.{ℕ}
use native.Mathlib.Omega.{arith}
use lib.ListN.{set, replicate}
use Rattle.counts.proofs.Occurs.{counts_none, counts_same}
use Rattle.counts.proofs.fill.Goals as goal

pub returns : goal.returns
returns c =
    let a = c.args in
    ap (λ (t : List ℕ). set t a.grey a.number) (c.fill.ensures.after (λ y e. e) ∙ ap (λ (n : ℕ). replicate n 0) c.told-counts ∙ counts_none) ∙ counts_same a.number a.grey (omega arith)
