-- `combine::groups::frames` meets its contract. Assumes nothing.
use mathlib.Core.Path.{◌∙◌}
use Rattle.combine.proofs.Bytes.{frames_at}
use Rattle.combine.proofs.groups.frames.Goals as goal

pub returns : goal.returns
returns c =
    let s = c.args in
    c.from.ensures ∙ frames_at s.setting.now s.group s.phase c.requires.1
