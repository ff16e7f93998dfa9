-- `update_control_1`: a nibble for each plane.
use borrow.Author.Tests.{eq-eqb, ne_eqb}
use Rattle.listed.proofs.update_control_1.Goals as goal

pub returns-then-index-eq0 : goal.returns-then-index-eq0
returns-then-index-eq0 c =
    let start = c.args in
    rw (
      eq-eqb start.index 0 c.if-index-eq0.true,
      c.plane_option.ensures,
      c.plane_option-then-index-eq0.ensures,
      c.low_nibble.ensures,
    )

pub returns : goal.returns
returns c = rw (ne_eqb c.args.index 0 c.if-index-eq0.false)
