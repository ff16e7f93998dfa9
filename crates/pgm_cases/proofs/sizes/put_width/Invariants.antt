-- Each height so far adds one to a count at most.
use Rattle.std.proofs.Common.{◌≤◌}
use Rattle.pgm_cases.proofs.sizes.put_width.Given as goal

abbrev pub invariant-loop-height : goal.invariant-loop-height
invariant-loop-height g l = (l.written ≤ l.height) × (l.read ≤ l.height)
