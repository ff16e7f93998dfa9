-- `sheet_text::put_bad_line` meets its contract.
use mathlib.Core.Path.{ap, ◌∙◌}
use Prim.Native.Nat.{ℕ}
use Rattle.column.specs.Columns.{natural, gathered}
use Rattle.column.proofs.Gathered.{after}
use Rattle.drive_sheet.specs.Tests.{setting_length}
use Rattle.sheet_text.specs.Answer.{bad_line_text}
use Rattle.sheet_text.proofs.put_bad_line.Goals as goal

pub returns : goal.returns
unfolding bad_line_text
returns c =
    after setting_length _ _ _
    (after setting_length _ _ _ c.put_text.ensures
    (c.put_number.ensures ∙ ap (λ (w : ℕ). gathered setting_length c.put_text.new.self (natural w c.args.line)) c.digits.ensures))
    c.put.ensures
