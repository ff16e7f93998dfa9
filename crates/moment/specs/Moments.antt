-- Moments in cycles of the configuration's time base, spans in nanoseconds, and BUSY (SCOPE, Time: computed moments stop at 2^64 − 1; #101).
use Rattle.std.specs.Prelude.{ℕ, ◌+◌, ◌-◌, min, Bool, false, ◌&&◌, not, leb, ltb, Option, Some, None}
use Rattle.numbers.specs.Choice.{pick}
use Rattle.numbers.specs.Saturation.{largest}
use Rattle.frequency.specs.Conversions.{cycles_of, nanos_of}
use Rattle.device.specs.declared.Bus.{Bus}
use Rattle.device.specs.Parts.{with_until}

-- a span in nanoseconds after a moment (mod.rs, `after`)
unfoldable pub after_ns : ℕ → ℕ → ℕ → ℕ
after_ns frequency moment ns = min (moment + cycles_of frequency ns) (largest 64)

-- the span in nanoseconds from one moment to another, 0 when that is earlier (mod.rs, `ns_between`)
unfoldable pub ns_between : ℕ → ℕ → ℕ → ℕ
ns_between frequency from to = nanos_of frequency (to - from)

-- the end of BUSY or of a display has come
abbrev pub has_come : Option ℕ → ℕ → Bool
has_come None moment = false
has_come (Some until) moment = leb until moment

-- BUSY falls when its time has come (mod.rs, `advance`)
abbrev pub lowered : Option ℕ → Bus → ℕ → Bus
lowered until bus moment = pick (has_come until moment) (with_until bus None) bus

-- at a moment no display ends and BUSY does not fall
abbrev pub quiet_at : Option ℕ → Option ℕ → ℕ → Bool
quiet_at ends until moment = not (has_come ends moment) && not (has_come until moment)

-- BUSY is high for a span from a moment on; a span of 0 leaves it as it is (mod.rs, `busy_for`)
unfoldable pub busy_for : Bus → ℕ → ℕ → ℕ → Bus
busy_for bus frequency moment ns = pick (ltb 0 ns) (with_until bus (Some (after_ns frequency moment ns))) bus
