-- `line::listed::otp` meets its contract.
use mathlib.Core.Path.{refl}
use native.Mathlib.Omega.{arith}
use Rattle.line.proofs.Within.{below, above}
use Rattle.line.proofs.listed.otp.Goals as goal

pub returns-then-byte-lt256 : goal.returns-then-byte-lt256
returns-then-byte-lt256 c = below _ _ _ (omega arith) (below _ _ _ (omega arith) refl)

pub returns-then-place-lt10000 : goal.returns-then-place-lt10000
returns-then-place-lt10000 c = below _ _ _ (omega arith) (above _ _ _ (omega arith))

pub returns : goal.returns
returns c = above _ _ _ (omega arith)
