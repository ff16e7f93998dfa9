use Rattle.config.proofs.Lowest.{Passed}
use Rattle.otp.specs.Table.{unlisted_voltage}
use Rattle.validate.proofs.check_voltages.Given as goal

abbrev pub invariant-loop-entry : goal.invariant-loop-entry
invariant-loop-entry l = Passed (unlisted_voltage l.otp) l.entry
