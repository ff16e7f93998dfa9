-- The parts of a test put together, over plain variables. Assumes nothing.
use mathlib.Core.Path.{◌≡◌}
use mathlib.Core.Bool.{Bool, ◌&&◌}
use lib.Dec.{eqb}
use Rattle.config.specs.declared.PanelGeometry.{PanelGeometry}
use Rattle.guard_lengths.specs.declared.Lengths.{Lengths}
use Rattle.guard_lengths.specs.Lengths.{plane_bytes, log_bytes, pixels_of, fits, lengths_fit}

pub all_lengths : (p : PanelGeometry) (l : Lengths) (log black red gates : Bool)
    → log ≡ fits l.log log_bytes → black ≡ fits l.black_white plane_bytes → red ≡ fits l.red plane_bytes → gates ≡ fits l.gates p.height
    → eqb l.states (pixels_of p) && eqb l.luts (pixels_of p) && eqb l.pixels (pixels_of p) && log && black && red && gates ≡ lengths_fit p l
unfolding lengths_fit
all_lengths p l log black red gates e f g h = rw (e, f, g, h)
