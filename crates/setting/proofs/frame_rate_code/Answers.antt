-- `setting::frame_rate_code` meets its contract. Assumes nothing.
use mathlib.Core.Path.{◌∙◌}
use borrow.Author.Tests.{eq-eqb, ne_eqb}
use Rattle.waveform.specs.Setting.{frame_rate_of}
use Rattle.setting.proofs.frame_rate_code.Goals as goal

pub returns-then-group-eq0 : goal.returns-then-group-eq0
unfolding frame_rate_of
returns-then-group-eq0 c = c.high_nibble.ensures ∙ simp (eq-eqb _ 0 c.if-group-eq0.true)

pub returns-else-group-eq0 : goal.returns-else-group-eq0
unfolding frame_rate_of
returns-else-group-eq0 c = c.low_nibble.ensures ∙ simp (ne_eqb _ 0 c.if-group-eq0.false)
