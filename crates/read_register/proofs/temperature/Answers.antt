-- `read_register::temperature`: the shift and the two bytes in plain arithmetic.
use mathlib.Core.Path.{◌∙◌}
use native.Mathlib.Omega.{arith}
use lib.Bits.{and_mask}
use mir.Facts.{Fits-mask}
use Prim.Native.Nat.{◌*◌, ◌%◌}
use Rattle.read_register.proofs.Bytes.{here, past}
use Rattle.registers.specs.Read.{temperature_bytes}
use Rattle.read_register.proofs.temperature.Goals as goal

pub overflow_cast-result-in-1 : goal.overflow_cast-result-in-1
overflow_cast-result-in-1 c = Fits-mask (c.args.regs.temperature * 16 % 65536) 8 tt

pub returns-in-0 : goal.returns-in-0
returns-in-0 c = rw c.in-0.is (here 2 (temperature_bytes c.args.regs) 0 _ (omega arith) (omega arith))

pub returns-in-1 : goal.returns-in-1
returns-in-1 c =
    rw c.in-1.is
    (here 2 (temperature_bytes c.args.regs) 1 _ (omega arith)
    (and_mask (c.args.regs.temperature * 16 % 65536) 8 ∙ omega arith))

pub returns-in_default : goal.returns-in_default
returns-in_default c = past 2 (temperature_bytes c.args.regs) c.args.index (omega (arith, c.in_default.in_default-own.rest.1, c.in_default.in_default-own.rest.0.1))
