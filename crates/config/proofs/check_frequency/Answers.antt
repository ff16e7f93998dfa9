-- `config::check_frequency` meets its contract.
use mathlib.Core.Path.{refl}
use mathlib.Core.List.{[]}
use borrow.Author.Tests.{eq-eqb, ne_eqb}
use Rattle.config.specs.Answer.{refused_by, answer_of}
use Rattle.config.proofs.Answers.{refuses, passes, none_left}
use Rattle.config.specs.Tests.{frequency_test}
use Rattle.config.proofs.check_frequency.Goals as goal

pub returns-then-frequency-eq0 : goal.returns-then-frequency-eq0
unfolding answer_of refused_by
returns-then-frequency-eq0 c = refuses (frequency_test c.args.frequency) [] _ (eq-eqb _ 0 c.if-frequency-eq0.true) refl

pub returns : goal.returns
unfolding answer_of refused_by
returns c = passes (frequency_test c.args.frequency) [] _ (ne_eqb _ 0 c.if-frequency-eq0.false) (none_left _ refl)
