use Rattle.std.proofs.Common.{◌≡◌, length}
use Rattle.leaf.proofs.refreshes.refreshed.Given as goal

abbrev pub invariant-loop : goal.invariant-loop
invariant-loop l = length l.counts ≡ 256
