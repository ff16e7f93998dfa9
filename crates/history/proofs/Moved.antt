-- What the reckoning says of a moment, told of the state before the clock moved and of the state after it. Assumes nothing.
use Rattle.std.specs.Prelude.{Option, Some, None}
use Prim.Native.Nat.{ℕ, ◌-◌, max}
use mathlib.Core.Path.{◌≡◌, refl, sym, ap, ◌∙◌}
use mathlib.Core.Bool.{Bool, true, false, ◌&&◌}
use mathlib.Core.List.{List, [], ◌∷◌}
use lib.Dec.{leb, ltb}
use borrow.Author.Tests.{leb-true, leb-false, lt-ltb, le-ltb}
use Rattle.numbers.specs.Choice.{pick}
use Rattle.panel.specs.declared.Display.{Display}
use Rattle.panel.specs.Finish.{finished}
use Rattle.device.specs.declared.Bus.{Bus}
use Rattle.device.specs.declared.Ssd1677.{Ssd1677}
use Rattle.world.specs.World.{WithGlass}
use Rattle.busy.specs.Busy.{pending}
use Rattle.moment.specs.Moments.{lowered}
use Rattle.clock.specs.Advance.{clocked, quieted, glass_published, ending_of, glass_of, ended_by, ended, advanced}
use Rattle.history.specs.Reckon.{up_to, lasted, Worked}
use Rattle.history.proofs.Shows.{refresh}
use Rattle.history.proofs.Line.{cuts_by, cut_in, bus_moved, now_moved}

-- ---- what a cut is, before and after the clock's move
and_none : (a : Bool) → a && false ≡ false
and_none true = refl
and_none false = refl

and_all : (a : Bool) → a && true ≡ a
and_all true = refl
and_all false = refl

-- what the reckoning says that a reset at a moment cuts of a display
abbrev pub cuts_at : List ℕ → ℕ → ℕ → Option Display → List Worked
cuts_at luts frequency t None = []
cuts_at luts frequency t (Some display) =
    pick (leb display.started t && ltb t display.ends) (refresh luts display (up_to (lasted frequency (t - display.started))) ∷ []) []

-- of the refresh under way
abbrev pub cut_at : List ℕ → ℕ → Ssd1677 → List Worked
cut_at luts t d = cuts_at luts d.config.frequency t d.display

pub cut_moved : (luts : List ℕ) (time : ℕ) (g : WithGlass) → cut_in luts (advanced luts time g).device ≡ cut_at luts (max g.device.now time) g.device
unfolding advanced ended
cut_moved luts time g = by g.device.display refl
  where
    x : WithGlass
    x = clocked time g

    f : ℕ
    f = g.device.config.frequency

    t : ℕ
    t = max g.device.now time

    cuts : Display → Bool → List Worked
    cuts display b = pick b (refresh luts display (up_to (lasted f (t - display.started))) ∷ []) []

    at : (display : Display) (b : Bool) → g.device.display ≡ Some display → leb display.ends t ≡ b
        → cut_in luts (quieted (pick b (glass_published x (finished (ending_of x.device display display.ends None) luts (glass_of x))) x)).device
        ≡ cuts_at luts f t (Some display)
    at display true is e =
        sym
        (ap (cuts display)
        (ap (λ (early : Bool). leb display.started t && early) (le-ltb t display.ends (leb-true display.ends t e)) ∙ and_none (leb display.started t)))
    at display false is e =
        ap (cuts_by luts f t) is
        ∙ sym
        (ap (cuts display)
        (ap (λ (early : Bool). leb display.started t && early) (lt-ltb t display.ends (leb-false display.ends t e)) ∙ and_all (leb display.started t)))

    by : (o : Option Display) → g.device.display ≡ o → cut_in luts (quieted (ended_by luts x o)).device ≡ cuts_at luts f t o
    by None is = ap (cuts_by luts f t) is
    by (Some display) is = at display (leb display.ends t) is refl

-- ---- BUSY, before and after the clock's move
pending_lowered : (until : Option ℕ) (bus : Bus) (t : ℕ) → bus.busy_until ≡ until → pending (lowered until bus t).busy_until t ≡ pending until t
unfolding pending
pending_lowered None bus t e = ap (λ (u : Option ℕ). pending u t) e
pending_lowered (Some until) bus t e = by (leb until t) refl
  where
    by : (b : Bool) → leb until t ≡ b
        → pending (pick b (record { power = bus.power; current = bus.current; busy_until = None }) bus).busy_until t ≡ ltb t until
    by true o = sym (le-ltb t until (leb-true until t o))
    by false o = ap (λ (u : Option ℕ). pending u t) e

pub pending_moved : (luts : List ℕ) (time : ℕ) (g : WithGlass)
    → pending (advanced luts time g).device.bus.busy_until (advanced luts time g).device.now ≡ pending g.device.bus.busy_until (max g.device.now time)
pending_moved luts time g =
    ap (λ (b : Bus). pending b.busy_until (advanced luts time g).device.now) (bus_moved luts time g)
    ∙ ap (pending (lowered g.device.bus.busy_until g.device.bus (max g.device.now time)).busy_until) (now_moved luts time g)
    ∙ pending_lowered g.device.bus.busy_until g.device.bus (max g.device.now time) refl
