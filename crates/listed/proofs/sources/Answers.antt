-- `sources`: by the list of the voltage that the byte is of.
use borrow.Author.Tests.{lt-ltb, le-ltb}
use native.Mathlib.Omega.{arith}
use Rattle.listed.proofs.sources.Goals as goal

pub returns-then-index-lt2 : goal.returns-then-index-lt2
returns-then-index-lt2 c = rw (lt-ltb c.args.index 2 (omega arith), c.is_some.ensures, c.source_millivolts.ensures)

pub returns : goal.returns
returns c = rw (le-ltb c.args.index 2 (omega arith), c.is_some-2.ensures, c.vsl_millivolts.ensures)
