-- `shift_report::words::code` meets its contract.
use mathlib.Core.Path.{ap, ◌∙◌}
use native.Mathlib.Omega.{arith}
use lib.ListN.{get_or}
use Rattle.shift_report.specs.Words.{hex_value, hex_byte}
use Rattle.shift_report.proofs.Hex.{below, no_code, a_code}
use Rattle.shift_report.proofs.words.code.Goals as goal

pub returns-in_default : goal.returns-in_default
returns-in_default c = no_code c.args.word.now (λ l a b. omega arith)

pub returns-in_default-2 : goal.returns-in_default-2
returns-in_default-2 c = no_code c.args.word.now (λ l a b. omega arith)

pub returns-in_default-3 : goal.returns-in_default-3
returns-in_default-3 c = no_code c.args.word.now (λ l a b. omega arith)

pub returns-in_default-4 : goal.returns-in_default-4
returns-in_default-4 c = no_code c.args.word.now (λ l a b. omega arith)

pub returns-in_err-hex_value : goal.returns-in_err-hex_value
returns-in_err-hex_value c =
    let w = c.args.word.now in
    rw c.from_residual.ensures
    (ap (λ h. hex_byte h (hex_value (get_or w 3 0))) c.in_err-hex_value.ensures ∙ a_code w (omega arith) (omega arith) (omega arith))

pub overflow_mul-result : goal.overflow_mul-result
overflow_mul-result c = record { fits = omega (arith, below _ _ c.in_ok-hex_value.ensures) }

pub returns-in_err-hex_value-2 : goal.returns-in_err-hex_value-2
returns-in_err-hex_value-2 c =
    let w = c.args.word.now in
    rw c.from_residual-in_err-hex_value-2.ensures
    ((λ i. hex_byte (c.in_ok-hex_value.ensures i) (c.in_err-hex_value-2.ensures i)) ∙ a_code w (omega arith) (omega arith) (omega arith))

pub overflow_add-result : goal.overflow_add-result
overflow_add-result c = record { fits = omega (arith, below _ _ c.in_ok-hex_value.ensures, below _ _ c.in_ok-hex_value-2.ensures) }

pub returns : goal.returns
returns c =
    let w = c.args.word.now in
    (λ i. hex_byte (c.in_ok-hex_value.ensures i) (c.in_ok-hex_value-2.ensures i)) ∙ a_code w (omega arith) (omega arith) (omega arith)
