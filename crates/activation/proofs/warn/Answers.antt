-- `activation::warn` meets its contract.
use mathlib.Core.Path.{refl}
use mathlib.Core.Bool.{true, false}
use lib.ListN.{get_or}
use Rattle.numbers.proofs.Cases.{took, passed}
use Rattle.activation.specs.Display.{warned}
use Rattle.activation.proofs.Cases.{ping_pong}
use Rattle.activation.proofs.warn.Goals as goal

pub returns-then-two-options : goal.returns-then-two-options
unfolding warned
returns-then-two-options c = took _ _ _ _ (ping_pong c.args.two (get_or c.args.options 5 0) true c.if-two-options.true) c.note.ensures

pub returns : goal.returns
unfolding warned
returns c = passed _ _ _ _ (ping_pong c.args.two (get_or c.args.options 5 0) false c.if-two-options.false) refl
