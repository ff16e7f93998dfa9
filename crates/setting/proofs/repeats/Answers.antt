-- `setting::repeats` meets its contract. Assumes nothing.
use Rattle.waveform.specs.Setting.{group_codes_of}
use Rattle.setting.proofs.repeats.Goals as goal

pub returns : goal.returns
unfolding group_codes_of
returns c = c.one_more.ensures
