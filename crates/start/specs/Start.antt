-- What 0x12, 0x28 and the RAM commands do when their byte arrives (mod.rs, `start_command`, `powered`).
use Rattle.std.specs.Prelude.{ℕ, ◌+◌, ◌*◌, ◌%◌, Bool, ◌&&◌}
use Rattle.numbers.specs.Choice.{pick}
use Rattle.counter.specs.Counter.{within_of}
use Rattle.diagnostic.specs.declared.Stage.{Stage}
use Rattle.diagnostic.specs.declared.Stage.TheVariants.{VcomSense}
use Rattle.diagnostic.specs.declared.DiagnosticKind.TheVariants.{CounterOutsideWindow}
use Rattle.diagnostic.specs.Power.{if_powered}
use Rattle.device.specs.declared.Ssd1677.{Ssd1677}
use Rattle.device.specs.Parts.{with_bus}
use Rattle.world.specs.World.{WithLog, with_log}
use Rattle.moment.specs.Moments.{busy_for}
use Rattle.chip.specs.Report.{logged}
use Rattle.reset.specs.Reset.{restored}

-- BUSY high for a span from the clock on
abbrev pub with_busy_for : Ssd1677 → ℕ → Ssd1677
with_busy_for d ns = with_bus d (busy_for d.bus d.config.frequency d.now ns)

-- 0x12: the registers restored, and BUSY high for the time of a SW reset
unfoldable pub soft_reset : Ssd1677 → Ssd1677
soft_reset d = with_busy_for (restored d) (restored d).config.timing.soft_reset

-- the clock and the analog supplies are on
unfoldable pub is_powered : Ssd1677 → Bool
is_powered d = d.clock && d.analog

-- 33 with the clock off; else 34 with the analog supplies off (mod.rs, `powered`)
unfoldable pub unpowered : Stage → WithLog → WithLog
unpowered stage k = if_powered k.device.clock k.device.analog stage k (λ kind. logged kind k)

-- what 0x28 takes: the low four bits of 0x29 and one, in seconds of 1,000,000,000 ns
abbrev pub sensing_time : Ssd1677 → ℕ
sensing_time d = (d.regs.vcom_sense % 16 + 1) * 1000000000

-- 0x28: BUSY high for the sensing; 33 or 34 without the clock or the analog supplies
unfoldable pub vcom_sensed : WithLog → WithLog
vcom_sensed k = pick (is_powered k.device) (with_log (with_busy_for k.device (sensing_time k.device)) k.log) (unpowered VcomSense k)

-- 0x24, 0x26 and 0x27: 32 where the counter lies outside the window (datasheet §8.5)
unfoldable pub pointed : ℕ → WithLog → WithLog
pointed command k =
    let regs = k.device.regs in
    pick (within_of regs.counter regs.window) k (logged (CounterOutsideWindow command regs.counter.x regs.counter.y) k)
