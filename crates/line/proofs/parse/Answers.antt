-- `line::parse` meets its contract: by what the columns hold.
use mathlib.Core.Path.{ap, ◌∙◌}
use Rattle.line.specs.Lines.{asked_of, line_of}
use Rattle.line.proofs.parse.Goals as goal

pub returns-in_err-columns : goal.returns-in_err-columns
unfolding line_of
returns-in_err-columns c = rw c.from_residual.ensures (ap asked_of c.in_err-columns.ensures)

pub returns : goal.returns
unfolding line_of
returns c = c.listed.ensures ∙ ap asked_of c.in_ok-columns.ensures
