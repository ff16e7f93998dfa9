-- `field::waveform_byte`: a store past the 112 bytes changes nothing.
use borrow.Author.Tests.{lt-ltb, le-ltb}
use native.Mathlib.Omega.{arith}
use Rattle.store.proofs.field.waveform_byte.Goals as goal

pub returns-then-at-lt112 : goal.returns-then-at-lt112
returns-then-at-lt112 c = rw (lt-ltb c.args.at 112 (omega arith))

pub returns : goal.returns
returns c = rw (le-ltb c.args.at 112 (omega arith))
