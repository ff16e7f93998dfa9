-- `write`: what `index` told, put into the definitions; past the end of a short plane `set` changes nothing.
use mathlib.Core.Path.{sym, ◌∙◌}
use lib.Seq.{set_out}
use borrow.Author.Tests.{lt-ltb, le-ltb}
use Rattle.ram.specs.Plane.{wrote_at, written_at}
use Rattle.ram.proofs.write.Goals as goal

pub returns-then-i-plane : goal.returns-then-i-plane
unfolding wrote_at written_at
returns-then-i-plane c =
    let place = sym c.in-Some.is ∙ c.index.ensures in record { value = rw (← place, lt-ltb _ _ c.if-i-plane.true); plane_after = rw (← place) }

pub returns-else-i-plane : goal.returns-else-i-plane
unfolding wrote_at written_at
returns-else-i-plane c =
    let place = sym c.in-Some.is ∙ c.index.ensures in record { value = rw (← place, le-ltb _ _ c.if-i-plane.false); plane_after = rw (← place) (sym (set_out _ _ _ c.if-i-plane.false)) }

pub returns-in-None : goal.returns-in-None
unfolding wrote_at written_at
returns-in-None c =
    let place = sym c.in-None.is ∙ c.index.ensures in record { value = rw (← place); plane_after = rw (← place) }
