use mathlib.Core.Path.{◌≡◌}
use Rattle.approximation.specs.Approximation.{approximate_entry}
use Rattle.otp.specs.Search.{any_of}
use Rattle.approximation.proofs.any_approximate_entry.Given as goal

abbrev pub invariant-loop-entry : goal.invariant-loop-entry
invariant-loop-entry l = (l.any ≡ any_of (approximate_entry l.otp) l.entry-index)
