-- `listing::line::put_phase` meets its contract.
use mathlib.Core.Path.{ap, ◌∙◌, refl}
use lib.ListN.{get_or}
use borrow.Author.Tests.{eq-eqb, ne_eqb}
use Rattle.numbers.proofs.Cases.{took, passed}
use Rattle.column.specs.Columns.{gathered}
use Rattle.column.proofs.Gathered.{nothing}
use Rattle.listing.specs.Listing.{phase_text, room}
use Rattle.listing.proofs.line.put_phase.Goals as goal

pub returns-then-group-phase-ne0 : goal.returns-then-group-phase-ne0
unfolding phase_text
returns-then-group-phase-ne0 c =
    let s = c.args in
    c.put_line.ensures ∙ ap (gathered room s.text.now) (passed _ _ _ _ (ne_eqb (get_or s.group.frames s.phase 0) 0 c.if-group-phase-ne0.true) refl)

pub returns-else-group-phase-ne0 : goal.returns-else-group-phase-ne0
unfolding phase_text
returns-else-group-phase-ne0 c =
    let s = c.args in
    nothing room s.text.now
    ∙ ap (gathered room s.text.now) (took _ _ _ _ (eq-eqb (get_or s.group.frames s.phase 0) 0 c.if-group-phase-ne0.false) refl)
