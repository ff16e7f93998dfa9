-- What a reset does (mod.rs, `set_reset`, `restore_registers`; SCOPE, Commands: a reset before driving drops the refresh).
use Rattle.std.specs.Prelude.{ℕ, Bool, true, false, List, leb, Option, Some, None}
use Rattle.numbers.specs.Choice.{pick}
use Rattle.diagnostic.specs.declared.DiagnosticKind.TheVariants.{ResetDuringDisplay}
use Rattle.panel.specs.declared.Display.{Display}
use Rattle.panel.specs.Finish.{finished}
use Rattle.device.specs.declared.Ssd1677.{Ssd1677}
use Rattle.device.specs.declared.Power.{Power}
use Rattle.device.specs.declared.Power.TheVariants.{Running, Asleep, InReset}
use Rattle.device.specs.declared.Current.TheVariants.{Idle, Ignoring}
use Rattle.device.specs.Parts.{with_bus, with_display, with_powers}
use Rattle.world.specs.World.{WithGlass, WithGlassLog, on, device_in_glass_log, log_in_glass_log, glass_in_glass_log}
use Rattle.registers.specs.Reset.{reset_of}
use Rattle.moment.specs.Moments.{ns_between, busy_for}
use Rattle.clock.specs.Advance.{ending_of, glass_of, glass_published}
use Rattle.chip.specs.Close.{closed}
use Rattle.chip.specs.Report.{logged}

-- the registers at their reset values, the supplies off, the status bits cleared (mod.rs, `restore_registers`)
unfoldable pub restored : Ssd1677 → Ssd1677
restored d = with_powers d (reset_of d.config.user_id) false false (record { hv_not_ready = false; vci_low = false })

-- a display is finished up to the cut, the nanoseconds from the start of driving to the clock, and dated the clock
unfoldable pub display_cut : List ℕ → Display → WithGlass → WithGlass
display_cut luts display g =
    let d = g.device in
    glass_published g (finished (ending_of d display d.now (Some (ns_between d.config.frequency display.started d.now))) luts (glass_of g))

-- no display is in progress any more, and the glass stays as it is
abbrev pub display_dropped : Ssd1677 → Ssd1677
display_dropped d = with_display d None

-- a display whose driving has begun is cut, with 39; an earlier one is dropped, no new picture and no 39 (SCOPE, Commands)
abbrev pub cut_by : List ℕ → WithGlassLog → Option Display → WithGlassLog
cut_by luts w None = w
cut_by luts w (Some display) =
    pick (leb display.started w.device.now)
    (on glass_in_glass_log (display_cut luts display) (on log_in_glass_log (logged ResetDuringDisplay) w))
    (on device_in_glass_log display_dropped w)

-- the display in progress is cut or dropped
unfoldable pub cut : List ℕ → WithGlassLog → WithGlassLog
cut luts w = cut_by luts w w.device.display

-- RES# is low: no command is current and BUSY has no end
unfoldable pub in_reset : Ssd1677 → Ssd1677
in_reset d = with_bus d (record { power = InReset; current = Ignoring; busy_until = None })

-- RES# falls: 26 if parameters lack, the display cut or dropped, the registers restored
unfoldable pub asserted : List ℕ → WithGlassLog → WithGlassLog
asserted luts w = on device_in_glass_log in_reset (on device_in_glass_log restored (cut luts (on log_in_glass_log closed w)))

-- RES# rises: the chip runs, no command has come yet, and BUSY is high for the time of a hardware reset
unfoldable pub released : Ssd1677 → Ssd1677
released d =
    with_bus d
    (busy_for (record { power = Running; current = Idle; busy_until = d.bus.busy_until }) d.config.frequency d.now d.config.timing.hardware_reset)

-- the line put low, or high, by the supply and reset state (mod.rs, `set_reset`)
unfoldable pub by_line : List ℕ → Bool → WithGlassLog → Power → WithGlassLog
by_line luts true w InReset = w
by_line luts true w Running = asserted luts w
by_line luts true w Asleep = asserted luts w
by_line luts false w InReset = on device_in_glass_log released w
by_line luts false w Running = w
by_line luts false w Asleep = w
