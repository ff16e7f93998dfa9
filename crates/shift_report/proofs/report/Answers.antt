-- `shift_report::report` meets its contract.
use Rattle.std.specs.Prelude.{length}
use borrow.Author.Tests.{lt-ltb}
use mathlib.Core.Path.{ap, ◌∙◌}
use Rattle.column.specs.Columns.{in_front}
use Rattle.shift_report.specs.Report.{shift_text, lines_room, at_front}
use Rattle.shift_report.proofs.report.Goals as goal

pub returns-clause-text : goal.returns-clause-text
unfolding at_front
returns-clause-text c =
    c.write_to.ensures.text ∙ (λ i. in_front lines_room ((c.text_of.ensures ∙ ap shift_text c.bounds-bounded.ensures) i) c.args.out.now)

pub returns-then-out-lt-ROOM-clause-text : goal.returns-then-out-lt-ROOM-clause-text
unfolding at_front
returns-then-out-lt-ROOM-clause-text c = rw (lt-ltb (length c.args.out.now) lines_room c.if-out-lt-ROOM.true)
