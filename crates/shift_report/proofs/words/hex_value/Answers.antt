-- `shift_report::words::hex_value` meets its contract.
use native.Mathlib.Omega.{arith}
use Rattle.shift_report.proofs.Hex.{digit, upper, lower, other}
use Rattle.shift_report.proofs.words.hex_value.Goals as goal

pub returns-in-48-to-57 : goal.returns-in-48-to-57
returns-in-48-to-57 c = digit c.args.byte (omega arith) (omega arith)

pub returns-in-65-to-70 : goal.returns-in-65-to-70
returns-in-65-to-70 c = upper c.args.byte (omega arith) (omega arith)

pub returns-in-97-to-102 : goal.returns-in-97-to-102
returns-in-97-to-102 c = lower c.args.byte (omega arith) (omega arith)

pub returns-in_default : goal.returns-in_default
returns-in_default c = other c.args.byte (λ h k. omega arith) (λ h k. omega arith) (λ h k. omega arith)

pub returns-in_default-2 : goal.returns-in_default-2
returns-in_default-2 c = other c.args.byte (λ h k. omega arith) (λ h k. omega arith) (λ h k. omega arith)

pub returns-in_default-3 : goal.returns-in_default-3
returns-in_default-3 c = other c.args.byte (λ h k. omega arith) (λ h k. omega arith) (λ h k. omega arith)

pub returns-in_default-4 : goal.returns-in_default-4
returns-in_default-4 c = other c.args.byte (λ h k. omega arith) (λ h k. omega arith) (λ h k. omega arith)
