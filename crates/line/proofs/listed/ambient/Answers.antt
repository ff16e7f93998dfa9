-- `line::listed::ambient` meets its contract.
use mathlib.Core.Path.{refl}
use native.Mathlib.Omega.{arith}
use Rattle.line.proofs.Within.{below, above}
use Rattle.line.proofs.listed.ambient.Goals as goal

pub returns-then-register-lt65536 : goal.returns-then-register-lt65536
returns-then-register-lt65536 c = below _ _ _ (omega arith) refl

pub returns : goal.returns
returns c = above _ _ _ (omega arith)
