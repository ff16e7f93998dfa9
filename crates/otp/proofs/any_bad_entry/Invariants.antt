use mathlib.Core.Path.{◌≡◌}
use Rattle.otp.specs.Table.{bad_entry}
use Rattle.otp.specs.Search.{any_of}
use Rattle.otp.proofs.any_bad_entry.Given as goal

abbrev pub invariant-loop-entry : goal.invariant-loop-entry
invariant-loop-entry l = l.bad ≡ any_of (bad_entry l.otp) l.entry-index
