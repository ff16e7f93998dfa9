-- `read_register::user_id`: a byte of the ten, or none.
use mathlib.Core.Path.{refl}
use native.Mathlib.Omega.{arith}
use Rattle.read_register.proofs.Bytes.{here, past}
use Rattle.read_register.proofs.user_id.Goals as goal

pub returns-then-index-lt10 : goal.returns-then-index-lt10
returns-then-index-lt10 c = here 10 c.args.regs.user_id c.args.index _ (omega arith) refl

pub returns : goal.returns
returns c = past 10 c.args.regs.user_id c.args.index (omega arith)
