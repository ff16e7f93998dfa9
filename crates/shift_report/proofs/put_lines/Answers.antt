-- `shift_report::put_lines` meets its contract.
use Rattle.column.proofs.Gathered.{after}
use Rattle.shift_report.specs.Report.{shift_lines, lines_room}
use Rattle.shift_report.proofs.put_lines.Goals as goal

pub returns : goal.returns
unfolding shift_lines
returns c =
    after lines_room _ _ _
    (after lines_room _ _ _ (after lines_room _ _ _ c.put_line.ensures c.put_line-2.ensures) c.put_line-3.ensures)
    c.put_line-4.ensures
