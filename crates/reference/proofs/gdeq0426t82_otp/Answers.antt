-- `reference::gdeq0426t82_otp` meets its contract: the definition's bytes are computed, and are those of the constant.
use mathlib.Core.Path.{refl}
use Rattle.numbers.specs.Lists.{tab}
use Rattle.config.specs.Temperature.{register_of}
use Rattle.reference.specs.Reference.{reference_table}
use Rattle.reference.proofs.gdeq0426t82_otp.Goals as goal

pub returns : goal.returns
unfolding reference_table tab register_of
returns c = refl
