-- `sheet_text::places::group_in` meets its contract.
use Rattle.sheet_text.specs.Reading.{group_drawn}
use Rattle.sheet_text.proofs.places.group_in.Goals as goal

pub returns : goal.returns
unfolding group_drawn
returns c =
    let rate = c in
    let repeats = rate in
    let frames = repeats in
    λ i. record {
      frames = frames.frames_at-frames.ensures i;
      repeats = repeats.repeats_at-repeats.ensures i;
      frame_rate = rate.number_at-rate.ensures.number i;
      codes = c.codes_at-codes.ensures i;
    }
