-- A state that 13 lets pass, from its parts: what shows that a call leaves such a state. Assumes nothing.
use mathlib.Core.Path.{◌≡◌}
use mathlib.Core.Bool.{true}
use borrow.Author.Tests.{le-leb}
use Rattle.device.specs.declared.Registers.{Registers}
use Rattle.device.specs.declared.Ssd1677.{Ssd1677}
use Rattle.registers.proofs.Bounds.{Bounded}
use Rattle.guard_kinds.specs.Kinds.{current_fine}
use Rattle.guard_state.specs.State.{panel_fine, swing_fine, periods_fine, registers_fine, count_fine, frequency_fine, state_fine}

pub registers_pass : (r : Registers) → Bounded r → registers_fine r ≡ true
unfolding registers_fine
registers_pass r f =
    rw (
      le-leb r.mux 1023 f.mux_ten,
      le-leb r.window.x_start 1023 f.window_ten.x_start_ten,
      le-leb r.window.x_end 1023 f.window_ten.x_end_ten,
      le-leb r.window.y_start 1023 f.window_ten.y_start_ten,
      le-leb r.window.y_end 1023 f.window_ten.y_end_ten,
      le-leb r.counter.x 1023 f.counter_ten.x_ten,
      le-leb r.counter.y 1023 f.counter_ten.y_ten,
      le-leb r.entry.0 7 f.entry_three,
      le-leb r.temperature 4095 f.temperature_twelve,
    )

pub state_passes : (d : Ssd1677)
    → panel_fine d.config.panel ≡ true → swing_fine d.panel.swing ≡ true → periods_fine d.config.timing.frame_period ≡ true
    → registers_fine d.regs ≡ true → count_fine d.journal.count ≡ true → current_fine d.bus.current ≡ true
    → frequency_fine d.config.frequency ≡ true
    → state_fine d ≡ true
unfolding state_fine
state_passes d a b c e f g h = rw (a, b, c, e, f, g, h)
