-- `bit`: what `read` told, put into the definition; the mask is the rest by 2.
use mathlib.Core.Path.{sym, ◌∙◌}
use lib.Bits.{and_mask}
use Rattle.numbers.specs.Choice.{bit_of}
use Rattle.ram.specs.Plane.{bit_at}
use Rattle.ram.proofs.bit.Goals as goal

pub returns : goal.returns
unfolding bit_at bit_of
returns c = rw (← (sym c.in_ok-byte.was ∙ c.read.ensures), and_mask _ 1)

pub returns-in_err-byte : goal.returns-in_err-byte
unfolding bit_at
returns-in_err-byte c = rw (c.from_residual.ensures, ← (sym c.in_err-byte.was ∙ c.read.ensures))
