-- `column::symbol` meets its contract.
use mathlib.Core.Path.{refl, sym, ap, ◌∙◌}
use mathlib.Core.Bool.{◌&&◌}
use Prim.Native.Nat.{ℕ, ◌+◌, ◌-◌, ◌/◌, ◌%◌}
use native.Mathlib.Omega.{arith}
use Rattle.numbers.proofs.Cases.{took, passed}
use Rattle.column.specs.Columns.{has_digit, symbol_at}
use Rattle.column.proofs.Symbols.{further, power_above}
use Rattle.column.proofs.symbol.Goals as goal

pub power_of_ten-requires : goal.power_of_ten-requires
power_of_ten-requires c = c.has_digit.ensures.near c.if-has_digit.true

pub nonzero_div-digit : goal.nonzero_div-digit
nonzero_div-digit c = omega (arith, c.power_of_ten.ensures, power_above c.args.place)

pub returns-then-has_digit : goal.returns-then-has_digit
unfolding symbol_at
returns-then-has_digit c =
    let n = c.args.n in
    took _ _ _ _ (sym c.has_digit.ensures.is ∙ c.if-has_digit.true) (ap (λ (p : ℕ). 48 + n / p % 10) c.power_of_ten.ensures)

pub overflow_sub-place : goal.overflow_sub-place
overflow_sub-place c = further c.args.n c.args.place (sym c.has_digit.ensures.is ∙ c.if-has_digit.false)

pub returns-then-right : goal.returns-then-right
unfolding symbol_at
returns-then-right c =
    passed _ _ _ _ (sym c.has_digit.ensures.is ∙ c.if-has_digit.false)
    (took _ _ _ _ ((λ i. c.if-negative.true i && sym c.has_digit-right.ensures.is i) ∙ c.if-right.true) refl)

pub returns-else-right : goal.returns-else-right
unfolding symbol_at
returns-else-right c =
    passed _ _ _ _ (sym c.has_digit.ensures.is ∙ c.if-has_digit.false)
    (passed _ _ _ _ ((λ i. c.if-negative.true i && sym c.has_digit-right.ensures.is i) ∙ c.if-right.false) refl)

pub returns-else-negative : goal.returns-else-negative
unfolding symbol_at
returns-else-negative c =
    passed _ _ _ _ (sym c.has_digit.ensures.is ∙ c.if-has_digit.false)
    (passed _ _ _ _ (ap (λ b. b && has_digit c.args.n (c.args.place - 1)) c.if-negative.false) refl)
