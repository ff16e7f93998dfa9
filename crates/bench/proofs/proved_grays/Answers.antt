-- `proved_grays` meets its contract.
use mathlib.Core.Path.{sym, refl, ap, ◌∙◌}
use lib.IntN.{ℤ}
use lib.ListN.{length}
use Rattle.numbers.proofs.Lin.{back}
use Rattle.panel.specs.Pixels.{grays}
use Rattle.bench.specs.Asked.{grayable}
use Rattle.bench.proofs.proved_grays.Goals as goal

pub paint_grays-requires : goal.paint_grays-requires
paint_grays-requires c = sym c.can_gray.ensures ∙ c.if-can_gray.true

pub returns-then-can_gray : goal.returns-then-can_gray
returns-then-can_gray c =
    let call = c in
    let test = call in
    let s = test in
    let a = s.args in record { value = sym test.if-can_gray.true ∙ test.can_gray.ensures ∙ ap (λ (z : ℤ). grayable z (length a.states.now) (length a.pixels.now)) (back s.ranges.swing); pixels_after = call.paint_grays.ensures ∙ ap (λ (z : ℤ). grays z a.states.now) (back s.ranges.swing) }

pub returns : goal.returns
returns c =
    let s = c in
    let a = s.args in record { value = sym c.if-can_gray.false ∙ c.can_gray.ensures ∙ ap (λ (z : ℤ). grayable z (length a.states.now) (length a.pixels.now)) (back s.ranges.swing); pixels_after = refl }
