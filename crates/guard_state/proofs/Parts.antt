-- The parts of a test put together, over plain variables. Assumes nothing.
use mathlib.Core.Path.{◌≡◌}
use mathlib.Core.Bool.{Bool, ◌&&◌}
use Rattle.device.specs.declared.Ssd1677.{Ssd1677}
use Rattle.guard_kinds.specs.Kinds.{current_fine}
use Rattle.guard_state.specs.State.{panel_fine, swing_fine, periods_fine, registers_fine, count_fine, frequency_fine, state_fine}

pub whole_state : (d : Ssd1677) (panel swing periods registers current : Bool)
    → panel ≡ panel_fine d.config.panel → swing ≡ swing_fine d.panel.swing → periods ≡ periods_fine d.config.timing.frame_period
    → registers ≡ registers_fine d.regs → current ≡ current_fine d.bus.current
    → panel && swing && periods && registers && count_fine d.journal.count && current && frequency_fine d.config.frequency ≡ state_fine d
unfolding state_fine
whole_state d panel swing periods registers current e f g h i = rw (e, f, g, h, i)
