-- `shift_report::put_number` meets its contract.
use Rattle.column.proofs.Gathered.{after}
use Rattle.shift_report.specs.Report.{number_line, lines_room}
use Rattle.shift_report.proofs.put_number.Goals as goal

pub returns : goal.returns
unfolding number_line
returns c = after lines_room _ _ _ c.put_number.ensures c.put.ensures
