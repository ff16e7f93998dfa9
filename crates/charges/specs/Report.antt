-- The report of the charge that each waveform of a table leaves in the glass (SCOPE, Charge).
use Rattle.std.specs.Prelude.{List, [], ◌∷◌, ◌++◌, ℕ, ◌+◌, ◌*◌, ℤ, length, take, drop, Result, Ok, Err}
use Rattle.waveform.specs.Phases.{joined}
use Rattle.config.specs.Answer.{Answer, accepted, Test}
use Rattle.config.specs.Tests.{periods_test, lent_test}
use Rattle.otp.specs.Table.{entry_bytes, entry_count, table_test}
use Rattle.column.specs.Columns.{natural, whole, line_end}
use Rattle.charges.specs.Charge.{charge_of, long_period_test, charge_refusal}
use Rattle.charges.specs.declared.ChargeError.{ChargeError}

-- the 112 setting bytes of an entry, from its byte 6 on (SCOPE, OTP table)
abbrev pub setting_bytes : List ℕ → ℕ → List ℕ
setting_bytes otp entry = take 112 (drop (entry_bytes * entry + 6) otp)

-- the sums of LUT 0 to 3, each in 21 columns
unfoldable pub sums_text : (ℕ → ℤ) → List ℕ
sums_text charge = joined 4 (λ lut. whole 21 (charge lut))

-- the line of an entry: its number from 0, and the four sums of its setting
unfoldable pub charge_line : List ℕ → List ℕ → ℕ → List ℕ
charge_line periods setting entry = natural 3 entry ++ sums_text (charge_of setting periods) ++ line_end

-- a line for each entry; none for an empty table
unfoldable pub charge_text : List ℕ → List ℕ → List ℕ
charge_text periods otp = joined (entry_count otp) (λ entry. charge_line periods (setting_bytes otp entry) entry)

-- bytes of a line: 3, four times 21, and LF
abbrev pub charge_line_bytes : ℕ
charge_line_bytes = 88

-- 5, 12, 81, 11
abbrev pub report_tests : List ℕ → List ℕ → List ℕ → List Test
report_tests periods otp out = periods_test periods ∷ table_test otp ∷ long_period_test periods ∷ lent_test (length out) (charge_line_bytes * entry_count otp) ∷ []

-- the number and the value of each case
unfoldable pub reported_of : {A : Type 0} → Result A ChargeError → Answer
reported_of (Ok value) = accepted
reported_of (Err error) = charge_refusal error
