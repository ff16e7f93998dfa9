-- The state that a refused start hands back is one that 13 refuses. Assumes nothing.
use mathlib.Core.Path.{◌≡◌, refl}
use mathlib.Core.Bool.{Bool, true, false, ◌&&◌}
use Rattle.config.specs.declared.Ssd1677Config.{Ssd1677Config}
use Rattle.guard_state.specs.State.{panel_fine, state_fine}
use Rattle.power_on.specs.Start.{unstarted}

one_fails : (a b c d e f : Bool) → a && false && b && c && d && e && f ≡ false
one_fails true b c d e f = refl
one_fails false b c d e f = refl

-- its swing is 0
pub unstarted_refused : (c : Ssd1677Config) → state_fine (unstarted c) ≡ false
unfolding unstarted state_fine
unstarted_refused c = one_fails (panel_fine c.panel) _ _ _ _ _
