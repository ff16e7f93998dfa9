use mathlib.Core.Path.{◌≡◌}
use mathlib.Core.List.{List, ◌++◌}
use Prim.Native.Nat.{ℕ, ◌*◌}
use lib.ListN.{drop}
use Rattle.waveform.specs.Phases.{joined}
use Rattle.charges.specs.Report.{setting_bytes, charge_line}
use Rattle.charges.proofs.put_text.Given as goal

abbrev pub line_in : List ℕ → List ℕ → ℕ → List ℕ
line_in periods otp entry = charge_line periods (setting_bytes otp entry) entry

abbrev pub invariant-loop-entry : goal.invariant-loop-entry
invariant-loop-entry l =
    l.out ≡ joined l.entry (line_in l.frame_period l.otp) ++ drop (88 * l.entry) l.initial.out
