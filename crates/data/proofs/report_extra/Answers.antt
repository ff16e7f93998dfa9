-- `data::report_extra` meets its contract.
use Rattle.numbers.proofs.Cases.{took, passed}
use mathlib.Core.Path.{refl}
use Rattle.data.proofs.report_extra.Goals as goal

pub returns-then-active : goal.returns-then-active
returns-then-active c = took _ _ _ _ c.if-active.true refl

pub returns : goal.returns
returns c = passed _ _ _ _ c.if-active.false c.report.ensures
