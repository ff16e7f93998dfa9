-- `column::read::step` meets its contract.
use mathlib.Core.Path.{refl}
use Rattle.numbers.proofs.Cases.{took, passed}
use Rattle.column.proofs.read.step.Goals as goal

pub returns-then-n-byte : goal.returns-then-n-byte
returns-then-n-byte c = took _ _ _ _ c.if-n-byte.true refl

pub returns-then-n-byte-2 : goal.returns-then-n-byte-2
returns-then-n-byte-2 c = passed _ _ _ _ c.if-n-byte.false (took _ _ _ _ c.if-n-byte-2.true refl)

pub returns : goal.returns
returns c = passed _ _ _ _ c.if-n-byte.false (passed _ _ _ _ c.if-n-byte-2.false c.digit.ensures)
