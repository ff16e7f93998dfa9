use mathlib.Core.Path.{◌≡◌}
use Prim.Native.Nat.{◌-◌, ◌≤◌}
use lib.ListN.{length}
use Rattle.bench.specs.Runs.{run, ran_over}
use Rattle.bench.proofs.memory.write_all.Given as goal

abbrev pub invariant-loop-i : goal.invariant-loop-i
invariant-loop-i l =
    (run l.at l.plane ≡ ran_over l.window l.entry l.bytes l.i (run l.initial.at l.initial.plane)) × ((length l.plane ≡ length l.initial.plane) × (l.i ≤ l.i-end))

abbrev pub decreases-loop-i : goal.decreases-loop-i
decreases-loop-i l = l.i-end - l.i
