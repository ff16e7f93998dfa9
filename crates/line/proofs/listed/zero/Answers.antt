-- `line::listed::zero` meets its contract.
use mathlib.Core.Path.{refl}
use native.Mathlib.Omega.{arith}
use Rattle.line.proofs.Within.{below, above}
use Rattle.line.proofs.listed.zero.Goals as goal

pub returns-then-column-lt1 : goal.returns-then-column-lt1
returns-then-column-lt1 c = below _ _ _ (omega arith) refl

pub returns : goal.returns
returns c = above _ _ _ (omega arith)
