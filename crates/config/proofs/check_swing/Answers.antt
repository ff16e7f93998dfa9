-- `config::check_swing` meets its contract.
use mathlib.Core.Path.{refl}
use mathlib.Core.List.{[]}
use borrow.Author.Tests.{eq-eqb, ne_eqb}
use Rattle.config.specs.Answer.{refused_by, answer_of}
use Rattle.config.proofs.Answers.{refuses, passes, none_left}
use Rattle.config.specs.Tests.{swing_test}
use Rattle.config.proofs.check_swing.Goals as goal

pub returns-then-optics-eq0 : goal.returns-then-optics-eq0
unfolding answer_of refused_by
returns-then-optics-eq0 c = refuses (swing_test c.args.optics) [] _ (eq-eqb _ 0 c.if-optics-eq0.true) refl

pub returns : goal.returns
unfolding answer_of refused_by
returns c = passes (swing_test c.args.optics) [] _ (ne_eqb _ 0 c.if-optics-eq0.false) (none_left _ refl)
