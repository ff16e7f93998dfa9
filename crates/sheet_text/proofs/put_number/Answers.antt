-- `sheet_text::put_number` meets its contract.
use mathlib.Core.Path.{ap, ◌∙◌}
use Prim.Native.Nat.{ℕ}
use Rattle.column.specs.Columns.{natural, gathered}
use Rattle.column.proofs.Gathered.{after}
use Rattle.drive_sheet.specs.Tests.{setting_length}
use Rattle.sheet_text.specs.Answer.{number_text}
use Rattle.sheet_text.proofs.put_number.Goals as goal

pub returns : goal.returns
unfolding number_text
returns c =
    after setting_length _ _ _
    (c.put_number.ensures ∙ ap (λ (n : ℕ). gathered setting_length c.args.answer.now (natural 3 n)) c.from.ensures)
    c.put.ensures
