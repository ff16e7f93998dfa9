-- The reset line beside the whole numbers: a fall works in what the cut let the refresh under way finish, and nothing of one whose driving
-- had not begun. Assumes nothing.
use Rattle.std.specs.Prelude.{Option, Some, None}
use Prim.Native.Nat.{ℕ, ◌<◌, ◌-◌, max}
use mathlib.Core.Path.{◌≡◌, refl, ap, subst, ◌∙◌}
use mathlib.Core.Bool.{Bool, true, false}
use mathlib.Core.List.{List, [], ◌∷◌}
use native.Mathlib.Omega.{arith}
use lib.Dec.{leb}
use borrow.Author.Tests.{leb-true}
use Rattle.numbers.specs.Choice.{pick}
use Rattle.panel.specs.declared.Display.{Display}
use Rattle.diagnostic.specs.declared.DiagnosticKind.TheVariants.{ResetDuringDisplay}
use Rattle.device.specs.declared.Bus.{Bus}
use Rattle.device.specs.declared.Power.{Power}
use Rattle.device.specs.declared.Power.TheVariants.{Running, Asleep, InReset}
use Rattle.device.specs.declared.Ssd1677.{Ssd1677}
use Rattle.world.specs.World.{WithGlass, with_glass, WithGlassLog, on, device_in_glass_log, log_in_glass_log, glass_in_glass_log}
use Rattle.moment.specs.Moments.{ns_between, lowered}
use Rattle.moment.proofs.Spans.{between_exact}
use Rattle.clock.specs.Advance.{clocked, quieted, advanced}
use Rattle.clock.proofs.Arrived.{ended_holds, goes_on}
use Rattle.chip.specs.Close.{closed}
use Rattle.chip.specs.Report.{logged}
use Rattle.reset.specs.Reset.{restored, display_cut, display_dropped, cut_by, cut, in_reset, asserted, released, by_line}
use Rattle.history.specs.Reckon.{up_to, lasted, Worked, falls, number_over}
use Rattle.history.proofs.Blind.{seen_glass_log}
use Rattle.history.proofs.Shows.{Marks, Short, Shows, over, refresh, finish_shows}

-- ---- what the clock's move leaves of the device
pub now_moved : (luts : List ℕ) (time : ℕ) (g : WithGlass) → (advanced luts time g).device.now ≡ max g.device.now time
unfolding advanced
now_moved luts time g = ended_holds (λ (x : WithGlass). x.device.now ≡ max g.device.now time) luts (clocked time g) (λ display. refl) refl

-- a refresh that is under way afterwards has not reached its end
pub not_over : (luts : List ℕ) (time : ℕ) (g : WithGlass) (display : Display) → (advanced luts time g).device.display ≡ Some display
    → (advanced luts time g).device.now < display.ends
not_over luts time g display is = rw (now_moved luts time g) (goes_on luts time g display is)

lowered_power : (until : Option ℕ) (bus : Bus) (t : ℕ) → (lowered until bus t).power ≡ bus.power
lowered_power None bus t = refl
lowered_power (Some until) bus t = by (leb until t)
  where
    by : (b : Bool) → (pick b (record { power = bus.power; current = bus.current; busy_until = None }) bus).power ≡ bus.power
    by true = refl
    by false = refl

pub bus_moved : (luts : List ℕ) (time : ℕ) (g : WithGlass)
    → (advanced luts time g).device.bus ≡ lowered g.device.bus.busy_until g.device.bus (max g.device.now time)
unfolding advanced
bus_moved luts time g =
    ended_holds (λ (x : WithGlass). (quieted x).device.bus ≡ lowered g.device.bus.busy_until g.device.bus (max g.device.now time)) luts (clocked time g)
    (λ display. refl) refl

pub power_moved : (luts : List ℕ) (time : ℕ) (g : WithGlass) → (advanced luts time g).device.bus.power ≡ g.device.bus.power
power_moved luts time g =
    ap (λ (b : Bus). b.power) (bus_moved luts time g) ∙ lowered_power g.device.bus.busy_until g.device.bus (max g.device.now time)

-- ---- the fall
-- what a fall cuts of a display
abbrev pub cuts_by : List ℕ → ℕ → ℕ → Option Display → List Worked
cuts_by luts frequency t None = []
cuts_by luts frequency t (Some display) =
    pick (leb display.started t) (refresh luts display (up_to (lasted frequency (t - display.started))) ∷ []) []

-- of the refresh under way
abbrev pub cut_in : List ℕ → Ssd1677 → List Worked
cut_in luts d = cuts_by luts d.config.frequency d.now d.display

-- a refresh under way has not reached its end
abbrev Before : Ssd1677 → Type 0
Before d = (display : Display) → d.display ≡ Some display → d.now < display.ends

asserted_shows : (luts : List ℕ) (w : WithGlassLog) (number : Marks) → Before w.device → Shows (seen_glass_log w) number
    → Shows (seen_glass_log (asserted luts w)) (over w.device.config (cut_in luts w.device) number)
unfolding asserted in_reset restored cut display_cut closed logged number_over
asserted_shows luts w number before h = by w.device.display refl
  where
    d : Ssd1677
    d = w.device

    c : WithGlassLog
    c = on log_in_glass_log closed w

    v : WithGlassLog
    v = on log_in_glass_log (logged ResetDuringDisplay) c

    fallen : WithGlassLog → WithGlassLog
    fallen x = on device_in_glass_log in_reset (on device_in_glass_log restored x)

    at : (display : Display) (b : Bool) → d.display ≡ Some display → leb display.started d.now ≡ b
        → Shows (seen_glass_log (fallen (pick b (on glass_in_glass_log (display_cut luts display) v) (on device_in_glass_log display_dropped c))))
        (over d.config (pick b (refresh luts display (up_to (lasted d.config.frequency (d.now - display.started))) ∷ []) []) number)
    at display true is e =
        let soon = before display is in
        let begun = leb-true display.started d.now e in
        let brief : Short d.config.frequency (Some display) = subst (Short d.config.frequency) is h.short in
        let short = brief (d.now - display.started) (omega (arith, soon, begun)) in
        -- the cut, converted, is not held
        let exact = between_exact d.config.frequency display.started d.now h.ticks (omega (arith, short)) in
        let r =
        finish_shows luts display (with_glass v.device v.states v.picture) d.now (up_to (ns_between d.config.frequency display.started d.now))
        number (rw exact short) h in
        subst (λ (n : ℕ). Shows (seen_glass_log (fallen (on glass_in_glass_log (display_cut luts display) v))) (over d.config (refresh luts display (up_to n) ∷ []) number)) exact r
    at display false is e = record { swing = h.swing; some = h.some; ticks = h.ticks; short = tt; states = h.states; within = h.within; pixels = h.pixels; sized = h.sized; pixels_long = h.pixels_long; counts = h.counts; generation = h.generation }

    by : (o : Option Display) → d.display ≡ o → Shows (seen_glass_log (fallen (cut_by luts c o))) (over d.config (cuts_by luts d.config.frequency d.now o) number)
    by None is = record { swing = h.swing; some = h.some; ticks = h.ticks; short = h.short; states = h.states; within = h.within; pixels = h.pixels; sized = h.sized; pixels_long = h.pixels_long; counts = h.counts; generation = h.generation }
    by (Some display) is = at display (leb display.started d.now) is refl

pub line_shows : (luts : List ℕ) (low : Bool) (w : WithGlassLog) (number : Marks) (power : Power)
    → Before w.device → Shows (seen_glass_log w) number
    → Shows (seen_glass_log (by_line luts low w power)) (over w.device.config (pick (falls low power) (cut_in luts w.device) []) number)
unfolding by_line released number_over
line_shows luts true w number InReset before h = h
line_shows luts true w number Running before h = asserted_shows luts w number before h
line_shows luts true w number Asleep before h = asserted_shows luts w number before h
line_shows luts false w number InReset before h = h
line_shows luts false w number Running before h = h
line_shows luts false w number Asleep before h = h
