-- `line::listed::data` meets its contract.
use mathlib.Core.Path.{refl}
use native.Mathlib.Omega.{arith}
use Rattle.line.proofs.Within.{below, above}
use Rattle.line.proofs.listed.data.Goals as goal

pub returns-then-value-lt256 : goal.returns-then-value-lt256
returns-then-value-lt256 c = below _ _ _ (omega arith) refl

pub returns : goal.returns
returns c = above _ _ _ (omega arith)
