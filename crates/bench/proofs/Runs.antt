-- One byte more of a run. Assumes nothing.
use mathlib.Core.Path.{◌≡◌, sym, ap, ◌∙◌}
use mathlib.Core.List.{List}
use Prim.Native.Nat.{ℕ, ◌+◌}
use native.Mathlib.Numerals.{add-one}
use lib.ListN.{get_or}
use Rattle.counter.specs.declared.Counter.{Counter}
use Rattle.counter.specs.declared.Window.{Window}
use Rattle.counter.specs.declared.Entry.{Entry}
use Rattle.counter.specs.Counter.{advanced_of}
use Rattle.ram.specs.Plane.{written_at}
use Rattle.bench.specs.Runs.{Run, run, ran_one, ran_over}

pub ran_none : (w : Window) (e : Entry) (bytes : List ℕ) (r : Run) → r ≡ ran_over w e bytes 0 r
unfolding ran_over
ran_none w e bytes r = λ i. r

pub ran_more : (w : Window) (e : Entry) (bytes : List ℕ) (i : ℕ) (r : Run) {c d : Counter} {p q : List ℕ}
    → run c p ≡ ran_over w e bytes i r → d ≡ advanced_of c w e → q ≡ written_at p c (get_or bytes i 0) → run d q ≡ ran_over w e bytes (i + 1) r
unfolding ran_over
ran_more w e bytes i r h a b =
    (λ j. run (a j) (b j)) ∙ ap (ran_one w e (get_or bytes i 0)) h ∙ sym (ap (λ (n : ℕ). ran_over w e bytes n r) (add-one i))
