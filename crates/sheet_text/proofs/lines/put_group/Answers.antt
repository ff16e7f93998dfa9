-- `sheet_text::lines::put_group` meets its contract: the columns of a group, one after the other.
use mathlib.Core.Path.{ap, ◌∙◌}
use Prim.Native.Nat.{ℕ}
use Rattle.column.specs.Columns.{natural, gathered}
use Rattle.column.proofs.Gathered.{after}
use Rattle.sheet_text.specs.Text.{group_line, text_bytes}
use Rattle.sheet_text.proofs.lines.put_group.Goals as goal

pub returns : goal.returns
unfolding group_line
returns c =
    after text_bytes _ _ _
    (after text_bytes _ _ _
    (after text_bytes _ _ _
    (after text_bytes _ _ _ (after text_bytes _ _ _ c.put_number.ensures c.put_frames.ensures)
    (c.put_number-2.ensures ∙ ap (λ (n : ℕ). gathered text_bytes c.put_frames.new.text (natural 4 n)) c.from.ensures))
    c.put_number-3.ensures)
    c.put_luts.ensures)
    c.put.ensures
