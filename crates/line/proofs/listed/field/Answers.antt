-- `line::listed::field` meets its contract: a number that is at most the largest is below the limit.
use mathlib.Core.Path.{refl}
use native.Mathlib.Omega.{arith}
use Rattle.line.proofs.Within.{below, above}
use Rattle.line.proofs.listed.field.Goals as goal

pub returns-then-number-most : goal.returns-then-number-most
returns-then-number-most c = below _ _ _ (omega arith) (below _ _ _ (omega (arith, c.largest-most.ensures)) refl)

pub returns-then-value-lt54 : goal.returns-then-value-lt54
returns-then-value-lt54 c = below _ _ _ (omega arith) (above _ _ _ (omega (arith, c.largest-most.ensures)))

pub returns : goal.returns
returns c = above _ _ _ (omega arith)
