-- `activation::analog_off` meets its contract.
use Rattle.activation.specs.Activation.{analog_off}
use Rattle.numbers.proofs.Cases.{took, passed}
use mathlib.Core.Path.{refl}
use Rattle.activation.proofs.analog_off.Goals as goal

pub returns-then-wanted-run : goal.returns-then-wanted-run
unfolding analog_off
returns-then-wanted-run c = took _ _ _ _ c.if-wanted-run.true c.wait.ensures

pub returns : goal.returns
unfolding analog_off
returns c = passed _ _ _ _ c.if-wanted-run.false refl
