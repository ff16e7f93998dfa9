-- `listing::line::drive_of` meets its contract.
use mathlib.Core.Path.{ap, ◌∙◌}
use Rattle.numbers.proofs.Lin.{field_back}
use Rattle.waveform.specs.declared.Phase.{Phase}
use Rattle.listing.proofs.line.drive_of.Goals as goal

pub returns : goal.returns
returns c = field_back c.phase_of.result.millivolts c.struct_told-1.given.1.1.0.1 ∙ ap (λ (p : Phase). p.millivolts) c.phase_of.ensures
