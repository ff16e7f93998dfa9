-- `shift_report::put_line` meets its contract.
use mathlib.Core.Path.{ap, ◌∙◌}
use Prim.Native.Nat.{ℕ}
use Rattle.column.specs.Columns.{natural, gathered}
use Rattle.column.proofs.Gathered.{after}
use Rattle.shift_report.specs.Report.{shift_line, lines_room}
use Rattle.shift_report.proofs.put_line.Goals as goal

pub returns : goal.returns
unfolding shift_line
returns c =
    after lines_room _ _ _
    (after lines_room _ _ _ (after lines_room _ _ _ c.put_number.ensures c.put_number-2.ensures)
    (c.put_number-3.ensures ∙ ap (λ (n : ℕ). gathered lines_room c.put_number-2.new.self (natural 4 n)) c.from.ensures))
    c.put.ensures
