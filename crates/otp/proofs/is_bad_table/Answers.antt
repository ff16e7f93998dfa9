-- `otp::is_bad_table` meets its contract.
use Rattle.otp.specs.Table.{bad_table}
use Rattle.otp.proofs.is_bad_table.Goals as goal

pub returns-then-otp-entries : goal.returns-then-otp-entries
unfolding bad_table
returns-then-otp-entries c = rw c.if-otp-entries.true

pub returns : goal.returns
unfolding bad_table
returns c = rw c.if-otp-entries.false c.any_bad_entry.ensures
