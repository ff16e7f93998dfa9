-- `read`: what `index` told, put into the definition.
use mathlib.Core.Path.{sym, ◌∙◌}
use borrow.Author.Tests.{lt-ltb, le-ltb}
use Rattle.ram.specs.Plane.{read_at}
use Rattle.ram.proofs.read.Goals as goal

pub returns-then-i-plane : goal.returns-then-i-plane
unfolding read_at
returns-then-i-plane c = rw (← (sym c.in_ok-i.was ∙ c.index.ensures), lt-ltb _ _ c.if-i-plane.true)

pub returns : goal.returns
unfolding read_at
returns c = rw (← (sym c.in_ok-i.was ∙ c.index.ensures), le-ltb _ _ c.if-i-plane.false)

pub returns-in_err-i : goal.returns-in_err-i
unfolding read_at
returns-in_err-i c = rw (c.from_residual.ensures, ← (sym c.in_err-i.was ∙ c.index.ensures))
