-- What 13 asks of a state that is handed in (SCOPE, Refusals).
use Rattle.std.specs.Prelude.{ℕ, Bool, ◌&&◌, not, List, leb, ℤ, pos}
use Rattle.std.specs.Int.Signed.{le_z}
use Rattle.numbers.specs.Saturation.{most}
use Rattle.config.specs.declared.PanelGeometry.{PanelGeometry}
use Rattle.config.specs.Answer.{is_accepted, first_of}
use Rattle.config.specs.Tests.{geometry_tests, periods_test, frequency_test}
use Rattle.device.specs.declared.Registers.{Registers}
use Rattle.device.specs.declared.Ssd1677.{Ssd1677}
use Rattle.guard_kinds.specs.Kinds.{current_fine}

-- the panel is refused by none of 1 to 3
unfoldable pub panel_fine : PanelGeometry → Bool
panel_fine p = is_accepted (first_of (geometry_tests p))

-- the swing is from 1 to 2^63 − 1
abbrev pub swing_fine : ℤ → Bool
swing_fine swing = le_z (pos 1) swing && le_z swing most

-- 5 refuses no frame period: none is 0
unfoldable pub periods_fine : List ℕ → Bool
periods_fine periods = not (periods_test periods).refuses

-- mux, window or counter value: at most 1,023
abbrev pub is_ten_bits : ℕ → Bool
is_ten_bits value = leb value 1023

-- mux, window and counter at most 1,023, entry at most 7, temperature at most 4,095
unfoldable pub registers_fine : Registers → Bool
registers_fine r =
    is_ten_bits r.mux
    && is_ten_bits r.window.x_start && is_ten_bits r.window.x_end && is_ten_bits r.window.y_start && is_ten_bits r.window.y_end
    && is_ten_bits r.counter.x && is_ten_bits r.counter.y
    && leb r.entry.0 7
    && leb r.temperature 4095

-- the log holds at most 1,024 records
abbrev pub count_fine : ℕ → Bool
count_fine count = leb count 1024

-- 14 does not refuse the frequency: it is not 0 (#101)
abbrev pub frequency_fine : ℕ → Bool
frequency_fine frequency = not (frequency_test frequency).refuses

-- 13 finds nothing to refuse
unfoldable pub state_fine : Ssd1677 → Bool
state_fine d =
    panel_fine d.config.panel
    && swing_fine d.panel.swing
    && periods_fine d.config.timing.frame_period
    && registers_fine d.regs
    && count_fine d.journal.count
    && current_fine d.bus.current
    && frequency_fine d.config.frequency
