-- `parameter::register_byte` meets its contract.
use Rattle.parameter.proofs.Cases.{stores}
use Rattle.parameter.proofs.register_byte.Goals as goal

pub returns : goal.returns
returns c = stores _ _ _ _ _ _ _ c.store-regs.ensures c.set_regs-stored.ensures c.check_listed.ensures
