-- `read_register::read_register`: in each arm the command is the row's number; in the last, no row's.
use Prim.{Unit}
use mathlib.Core.Path.{ap, ◌∙◌}
use mathlib.Core.List.{[]}
use native.Mathlib.Omega.{arith}
use Rattle.numbers.specs.Rows.{lookup}
use Rattle.numbers.proofs.Miss.{miss}
use Rattle.read_register.proofs.Bytes.{past}
use Rattle.registers.specs.Read.{ReadBytes, answer, byte_of, read_register, read_rows}
use Rattle.read_register.proofs.read_register.Goals as goal

pub returns-in-27 : goal.returns-in-27
unfolding read_register lookup
returns-in-27 c = rw c.in-27.is c.temperature.ensures

pub returns-in-45 : goal.returns-in-45
unfolding read_register lookup
returns-in-45 c = rw c.in-45.is c.display_option.ensures

pub returns-in-46 : goal.returns-in-46
unfolding read_register lookup
returns-in-46 c = rw c.in-46.is c.user_id.ensures

pub returns-in-47 : goal.returns-in-47
unfolding read_register lookup
returns-in-47 c = rw c.in-47.is c.status_byte.ensures

pub returns-in_default : goal.returns-in_default
unfolding read_register
returns-in_default c =
    past 0 [] c.args.index (omega arith)
    ∙ ap (λ (a : ReadBytes). byte_of a c.args.index) (miss (answer 0 []) c.args.command (read_rows c.args.regs c.args.status c.args.busy) Unit c.in_default.in_default-own.rest).1
