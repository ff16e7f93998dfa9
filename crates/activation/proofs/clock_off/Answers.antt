-- `activation::clock_off` meets its contract.
use Rattle.activation.specs.Activation.{clock_off}
use Rattle.numbers.proofs.Cases.{took, passed}
use mathlib.Core.Path.{refl}
use Rattle.activation.proofs.clock_off.Goals as goal

pub returns-then-wanted : goal.returns-then-wanted
unfolding clock_off
returns-then-wanted c = took _ _ _ _ c.if-wanted.true refl

pub returns : goal.returns
unfolding clock_off
returns c = passed _ _ _ _ c.if-wanted.false refl
