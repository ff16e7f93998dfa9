-- What the clock's move does (mod.rs, `advance`; SCOPE, Time: time never goes back, the later clock counts).
use Rattle.std.specs.Prelude.{ℕ, max, Bool, List, leb, ℤ, Option, Some, None}
use Rattle.numbers.specs.Choice.{pick}
use Rattle.panel.specs.declared.Display.{Display}
use Rattle.panel.specs.End.{display_end}
use Rattle.panel.specs.Finish.{Glass, glass, Ending, ending, Finishable, finished}
use Rattle.device.specs.declared.Ssd1677.{Ssd1677}
use Rattle.device.specs.Parts.{with_now, with_bus}
use Rattle.device.specs.Parts as part
use Rattle.world.specs.World.{WithGlass, with_glass}
use Rattle.moment.specs.Moments.{lowered, quiet_at}

-- what finishing a display asks of the state and its buffers; 13, 11 and 15 refuse all else
abbrev pub Ready : Ssd1677 → List ℤ → List ℕ → List ℕ → List ℕ → Type 0
Ready d states luts pixels counts = Finishable d.config.timing.frame_period d.panel.swing states luts pixels counts

-- the end of a display at a moment, whole or cut
abbrev pub ending_of : Ssd1677 → Display → ℕ → Option ℕ → Ending
ending_of d display at until = ending display d.config.optics.positive_drives_black d.config.timing.frame_period at until

-- the glass as the state has it
abbrev pub glass_of : WithGlass → Glass
glass_of g = glass g.device.panel g.states g.picture

-- the glass that a display left, and no display any more
abbrev pub glass_published : WithGlass → Glass → WithGlass
glass_published g after = with_glass (part.with_panel_and_display g.device after.panel None) after.states after.picture

-- at the clock no display ends and BUSY does not fall
abbrev pub is_quiet : Ssd1677 → Bool
is_quiet d = quiet_at (display_end d.display) d.bus.busy_until d.now

-- a display whose end has come is finished whole, dated its end
abbrev pub ended_by : List ℕ → WithGlass → Option Display → WithGlass
ended_by luts g None = g
ended_by luts g (Some display) =
    pick (leb display.ends g.device.now)
    (glass_published g (finished (ending_of g.device display display.ends None) luts (glass_of g)))
    g

-- that of the display in progress
unfoldable pub ended : List ℕ → WithGlass → WithGlass
ended luts g = ended_by luts g g.device.display

-- BUSY, at the clock
abbrev pub quieted : WithGlass → WithGlass
quieted g = with_glass (with_bus g.device (lowered g.device.bus.busy_until g.device.bus g.device.now)) g.states g.picture

-- the later of the clock and a time
abbrev pub clocked : ℕ → WithGlass → WithGlass
clocked time g = with_glass (with_now g.device (max g.device.now time)) g.states g.picture

-- the clock moves, a display whose end has come is finished, and BUSY falls when its time has come
unfoldable pub advanced : List ℕ → ℕ → WithGlass → WithGlass
advanced luts time g = quieted (ended luts (clocked time g))
