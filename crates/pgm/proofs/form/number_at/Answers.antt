-- `pgm::form::number_at` meets its contract.
use mathlib.Core.Path.{ap, ◌∙◌}
use native.Mathlib.Omega.{arith}
use Rattle.pgm.specs.Form.{with_digit, number_at}
use Rattle.pgm.proofs.form.number_at.Goals as goal

pub returns : goal.returns
unfolding number_at
returns c =
    let f = c.args.file.now in record { number = c.with_digit.ensures.digit ∙ ap (with_digit f) (c.with_digit-two.ensures.digit ∙ ap (with_digit f) c.with_digit-one.ensures.digit); near = omega arith }
