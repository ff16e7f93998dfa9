-- `setting::frames` meets its contract. Assumes nothing.
use mathlib.Core.Path.{refl}
use Rattle.waveform.specs.Setting.{group_codes_of}
use Rattle.setting.proofs.frames.Goals as goal

pub returns : goal.returns
unfolding group_codes_of
returns c = refl
