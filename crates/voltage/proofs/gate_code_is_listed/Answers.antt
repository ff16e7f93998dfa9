-- `voltage::gate_code_is_listed` meets its contract.
use native.Mathlib.Omega.{arith}
use borrow.Author.Tests.{ne_eqb, le-leb, lt-leb}
use Rattle.voltage.proofs.gate_code_is_listed.Goals as goal

pub returns-in-0 : goal.returns-in-0
returns-in-0 c = rw c.in-0.is

pub returns-in-7-to-23 : goal.returns-in-7-to-23
returns-in-7-to-23 c = rw (ne_eqb _ 0 c.in-7-to-23.in_default-own.rest.1, le-leb 0x07 c.args.code (omega arith), le-leb c.args.code 0x17 (omega arith))

pub returns-in_default : goal.returns-in_default
returns-in_default c = rw (ne_eqb _ 0 c.in_default.in_default-own.rest.1, lt-leb 0x07 c.args.code (omega arith))

pub returns-in_default-2 : goal.returns-in_default-2
returns-in_default-2 c = rw (ne_eqb _ 0 c.in_default.in_default-own.rest.1, le-leb 0x07 c.args.code (omega arith), lt-leb c.args.code 0x17 (omega arith))
