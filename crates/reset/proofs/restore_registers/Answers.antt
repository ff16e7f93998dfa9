-- `reset::restore_registers` meets its contract.
use Rattle.reset.proofs.Cases.{restores}
use Rattle.reset.proofs.restore_registers.Goals as goal

pub returns : goal.returns
returns c = restores _ _ _ c.reset-regs.ensures c.set_powers.ensures
