-- BUSY and the next deadline (mod.rs; datasheet Table 5-2 for the pin's level).
use Rattle.std.specs.Prelude.{ℕ, min, Bool, true, false, not, ltb, Option, Some, None}
use Rattle.numbers.specs.Choice.{pick}
use Rattle.panel.specs.End.{display_end}
use Rattle.device.specs.declared.Bus.{Bus}
use Rattle.device.specs.declared.Power.{Power}
use Rattle.device.specs.declared.Power.TheVariants.{Running, Asleep, InReset}
use Rattle.device.specs.declared.Ssd1677.{Ssd1677}

-- a time before the deadline
unfoldable pub pending : Option ℕ → ℕ → Bool
pending None time = false
pending (Some until) time = ltb time until

-- asleep BUSY is high, in reset it is low, else it is high while an operation runs
unfoldable pub busy_in : Power → Option ℕ → ℕ → Bool
busy_in Running until time = pending until time
busy_in Asleep until time = true
busy_in InReset until time = false

-- whether the controller is busy (mod.rs, `is_busy`)
abbrev pub busy_at : Bus → ℕ → Bool
busy_at bus time = busy_in bus.power bus.busy_until time

-- the level of the pin: high while busy, unless the board inverts the line (mod.rs, `busy_pin`)
unfoldable pub pin_at : Ssd1677 → ℕ → Bool
pin_at d time = pick d.config.busy_active_high (busy_at d.bus time) (not (busy_at d.bus time))

-- the earlier of two deadlines, or the one there is
unfoldable pub earlier : Option ℕ → Option ℕ → Option ℕ
earlier None b = b
earlier (Some a) None = Some a
earlier (Some a) (Some b) = Some (min a b)

-- the next instant at which something changes without a call (mod.rs, `next_deadline`)
unfoldable pub deadline_of : Ssd1677 → Option ℕ
deadline_of d = earlier (display_end d.display) d.bus.busy_until
