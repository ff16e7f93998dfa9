-- `line::listed::lent` meets its contract: a length that is at most the longest is below the limit.
use mathlib.Core.Path.{refl}
use native.Mathlib.Omega.{arith}
use Rattle.line.proofs.Within.{below, above}
use Rattle.line.proofs.listed.lent.Goals as goal

pub returns-then-length-most : goal.returns-then-length-most
returns-then-length-most c = below _ _ _ (omega arith) (below _ _ _ (omega (arith, c.longest-most.ensures)) refl)

pub returns-then-buffer-lt9 : goal.returns-then-buffer-lt9
returns-then-buffer-lt9 c = below _ _ _ (omega arith) (above _ _ _ (omega (arith, c.longest-most.ensures)))

pub returns : goal.returns
returns c = above _ _ _ (omega arith)
