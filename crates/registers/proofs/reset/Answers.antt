-- `reset`: three places of the setting changed.
use mathlib.Core.Path.{refl}
use Rattle.registers.specs.Reset.{reset_of}
use Rattle.registers.proofs.reset.Goals as goal

pub returns : goal.returns
unfolding reset_of
returns c = rw (c.default-gate_scan.ensures, c.default-entry.ensures, c.default-window.ensures) refl
