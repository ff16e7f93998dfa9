-- `line::columns::three` meets its contract.
use mathlib.Core.Path.{refl}
use Rattle.line.specs.Lines.{three_of}
use Rattle.line.proofs.columns.three.Goals as goal

pub returns-in_err-number : goal.returns-in_err-number
unfolding three_of
returns-in_err-number c = rw (c.from_residual.ensures, c.in_err-number.was) refl

pub returns-in_err-kind : goal.returns-in_err-kind
unfolding three_of
returns-in_err-kind c = rw (c.from_residual-in_err-kind.ensures, c.in_ok-number.was, c.in_err-kind.was) refl

pub returns-in_err-value : goal.returns-in_err-value
unfolding three_of
returns-in_err-value c = rw (c.from_residual-in_err-value.ensures, c.in_ok-number.was, c.in_ok-kind.was, c.in_err-value.was) refl

pub returns : goal.returns
unfolding three_of
returns c = rw (c.in_ok-number.was, c.in_ok-kind.was, c.in_ok-value.was) refl
