-- `temperature`: the low nibble is the remainder by 16.
use borrow.Author.Tests.{eq-eqb, ne_eqb}
use Rattle.listed.proofs.temperature.Goals as goal

pub returns-then-index-eq0 : goal.returns-then-index-eq0
returns-then-index-eq0 c = rw (eq-eqb c.args.index 0 c.if-index-eq0.true)

pub returns : goal.returns
returns c = rw (ne_eqb c.args.index 0 c.if-index-eq0.false, c.low_nibble.ensures)
