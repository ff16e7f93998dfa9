-- `line::listed::case` meets its contract.
use mathlib.Core.Path.{refl}
use native.Mathlib.Omega.{arith}
use Rattle.line.proofs.Within.{below, above}
use Rattle.line.proofs.listed.case.Goals as goal

pub returns-then-value-lt10000 : goal.returns-then-value-lt10000
returns-then-value-lt10000 c = below _ _ _ (omega arith) refl

pub returns : goal.returns
returns c = above _ _ _ (omega arith)
