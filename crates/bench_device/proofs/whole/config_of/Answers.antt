-- `config_of` meets its contract.
use mathlib.Core.Path.{refl}
use Rattle.bench_device.proofs.whole.config_of.Goals as goal

pub returns : goal.returns
returns c = rw (c.geometry_of-panel.ensures, c.default-optics.ensures, c.default-timing.ensures) refl
