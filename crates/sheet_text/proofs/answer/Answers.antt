-- `sheet_text::answer` meets its contract.
use Rattle.std.specs.Prelude.{length}
use borrow.Author.Tests.{lt-ltb}
use mathlib.Core.Path.{ap, ◌∙◌}
use mathlib.Core.List.{List}
use Prim.Native.Nat.{ℕ}
use Rattle.column.specs.Columns.{in_front}
use Rattle.drive_sheet.specs.Tests.{setting_length}
use Rattle.sheet_text.specs.Answer.{answered_in}
use Rattle.sheet_text.proofs.answer.Goals as goal

pub returns-clause-text : goal.returns-clause-text
unfolding answered_in
returns-clause-text c = c.write_to.ensures.text ∙ ap (λ (t : List ℕ). in_front setting_length t c.args.out.now) c.answer_to.ensures

pub returns-then-out-lt-SETTING_BYTES-clause-text : goal.returns-then-out-lt-SETTING_BYTES-clause-text
unfolding answered_in
returns-then-out-lt-SETTING_BYTES-clause-text c = rw (lt-ltb (length c.args.out.now) setting_length c.if-out-lt-SETTING_BYTES.true)
