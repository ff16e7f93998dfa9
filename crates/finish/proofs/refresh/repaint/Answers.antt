-- `finish::refresh::repaint` meets its contract. Assumes nothing.
use mathlib.Core.Path.{ap, ◌∙◌}
use Rattle.panel.specs.Pixels.{grays}
use Rattle.finish.proofs.Steps.{table_is}
use Rattle.finish.proofs.refresh.repaint.Goals as goal

pub paint-requires : goal.paint-requires
paint-requires c =
    let ts = c in
    let s = ts in record { repaintable = s.requires; movable = ts.transfers-transfers.ensures.movable }

pub returns : goal.returns
returns c =
    let call = c in
    let ts = call in
    let a = ts.args in
    let states = table_is a.refresh a.luts.now a.states.now ts.transfers-transfers.result ts.transfers-transfers.ensures.four_alike in record { states_after = call.paint.ensures.states_after ∙ states; pixels_after = call.paint.ensures.pixels_after ∙ ap (grays _) states }
