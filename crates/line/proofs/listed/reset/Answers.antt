-- `line::listed::reset` meets its contract.
use mathlib.Core.Path.{refl}
use native.Mathlib.Omega.{arith}
use Rattle.line.proofs.Within.{below, above}
use Rattle.line.proofs.listed.reset.Goals as goal

pub returns-then-value-lt2 : goal.returns-then-value-lt2
returns-then-value-lt2 c = below _ _ _ (omega arith) refl

pub returns : goal.returns
returns c = above _ _ _ (omega arith)
