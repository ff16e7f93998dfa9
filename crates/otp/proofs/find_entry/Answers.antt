-- `otp::find_entry` meets its contract.
use mathlib.Core.Path.{refl, sym, ◌∙◌}
use Rattle.numbers.proofs.Cases.{took, passed}
use Rattle.otp.specs.Waveform.{found_entry}
use Rattle.otp.proofs.find_entry.Goals as goal

pub returns-then-is_bad_table : goal.returns-then-is_bad_table
unfolding found_entry
returns-then-is_bad_table c = took _ _ _ _ (sym c.is_bad_table.ensures ∙ c.if-is_bad_table.true) refl

pub returns : goal.returns
unfolding found_entry
returns c = passed _ _ _ _ (sym c.is_bad_table.ensures ∙ c.if-is_bad_table.false) c.last_covering.ensures
