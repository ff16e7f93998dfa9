-- `activation::duration_of` meets its contract.
use mathlib.Core.Path.{ap, ◌∙◌}
use Rattle.waveform.specs.declared.Waveform.{Waveform}
use Rattle.waveform.specs.Duration.{duration_of}
use Rattle.activation.proofs.duration_of.Goals as goal

pub returns : goal.returns
returns c = c.duration_ns.ensures ∙ ap (λ (w : Waveform). duration_of w) c.from_setting-waveform.ensures
