-- `otp::bad_entry` meets its contract.
use Rattle.otp.specs.Table.{bad_entry}
use Rattle.otp.proofs.bad_entry.Goals as goal

pub returns : goal.returns
unfolding bad_entry
returns c = rw (c.pair-lower.ensures, c.pair-upper.ensures)
