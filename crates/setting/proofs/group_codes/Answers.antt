-- `setting::group_codes` meets its contract. Assumes nothing.
use Rattle.waveform.specs.Setting.{group_codes_of}
use Rattle.setting.proofs.group_codes.Goals as goal

pub returns : goal.returns
unfolding group_codes_of
returns c =
    λ i. record {
      frames = c.frames-frames.ensures i;
      repeats = c.repeats-repeats.ensures i;
      frame_rate = c.frame_rate_code-frame_rate.ensures i;
      codes = c.codes_of-codes.ensures i;
    }
