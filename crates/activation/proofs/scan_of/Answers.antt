-- `activation::scan_of` meets its contract.
use Rattle.activation.proofs.Cases.{scans}
use Rattle.activation.proofs.scan_of.Goals as goal

pub returns : goal.returns
returns c = scans c.args.regs _ _ c.from_nibble-red.ensures c.from_nibble-black_white.ensures
