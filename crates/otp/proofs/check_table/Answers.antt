-- `otp::check_table` meets its contract.
use mathlib.Core.Path.{refl, sym, ◌∙◌}
use mathlib.Core.List.{[]}
use Rattle.config.specs.Answer.{refused_by, answer_of}
use Rattle.config.proofs.Answers.{refuses, passes, none_left}
use Rattle.otp.specs.Table.{table_test}
use Rattle.otp.proofs.check_table.Goals as goal

pub returns-then-is_bad_table : goal.returns-then-is_bad_table
unfolding answer_of refused_by
returns-then-is_bad_table c = refuses (table_test _) [] _ (sym c.is_bad_table.ensures ∙ c.if-is_bad_table.true) refl

pub returns : goal.returns
unfolding answer_of refused_by
returns c = passes (table_test _) [] _ (sym c.is_bad_table.ensures ∙ c.if-is_bad_table.false) (none_left _ refl)
