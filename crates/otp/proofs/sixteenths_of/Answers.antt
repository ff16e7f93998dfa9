-- `otp::sixteenths_of` meets its contract.
use mathlib.Core.Path.{◌∙◌}
use mir.Syntax.{w16}
use Rattle.numbers.proofs.Lin.{back}
use Rattle.otp.proofs.sixteenths_of.Goals as goal

pub returns : goal.returns
returns c = back {w = w16} (record { sfits = c.sixteenths.type_inv }) ∙ c.sixteenths.ensures ∙ c.from_register.ensures
