-- The clock's move keeps BUSY high to the end of a running display: it ends a display before it lowers BUSY. Assumes nothing.
use Rattle.std.specs.Prelude.{Option, Some, None}
use Prim.Native.Nat.{ℕ, ◌<◌, max}
use mathlib.Core.Path.{◌≡◌, sym, ap, subst, ◌∙◌}
use mathlib.Core.Bool.{true}
use mathlib.Core.List.{List}
use native.Mathlib.Omega.{arith}
use borrow.Author.Tests.{lt-leb}
use Rattle.panel.specs.declared.Display.{Display}
use Rattle.device.specs.declared.Bus.{Bus}
use Rattle.device.specs.declared.Ssd1677.{Ssd1677}
use Rattle.device.specs.Parts.{with_now, with_bus}
use Rattle.world.specs.World.{WithGlass}
use Rattle.moment.specs.Moments.{lowered}
use Rattle.clock.specs.Advance.{quieted, clocked, advanced}
use Rattle.clock.proofs.Arrived.{none_some, ended_same, goes_on}
use Rattle.calls.specs.Sound.{inert, UnderWay, Held}

-- no display is in progress
pub held_still : (d : Ssd1677) → d.display ≡ None → Held d
held_still d e display is = absurd (none_some display (sym e ∙ is))

-- of the display that is under way
pub held_shown : (d : Ssd1677) (display : Display) → UnderWay d display → Held d
held_shown d display u other is = subst (UnderWay d) (ap inside (sym u.shown ∙ is)) u
  where
    inside : Option Display → Display
    inside None = display
    inside (Some x) = x

-- the same of a display that has not reached its end
abbrev pub Due : Ssd1677 → Type 0
Due d = (display : Display) → d.display ≡ Some display → d.now < display.ends → UnderWay d display

-- a state with the same display, clock and BUSY, whose current command is inert
pub under_way_kept : (d e : Ssd1677) {display : Display} → e.display ≡ d.display → e.now ≡ d.now → e.bus.power ≡ d.bus.power
    → e.bus.busy_until ≡ d.bus.busy_until → inert e.bus.current ≡ true → UnderWay d display → UnderWay e display
under_way_kept d e same clock power until current u =
    record {
      shown = same ∙ u.shown;
      until = u.until;
      busy = until ∙ u.busy;
      to_its_end = u.to_its_end;
      before_its_end = rw clock u.before_its_end;
      runs = power ∙ u.runs;
      inert_command = current;
    }

-- BUSY stays high before its time
stays_high : (until : Option ℕ) (bus : Bus) (moment n : ℕ) → until ≡ Some n → moment < n → lowered until bus moment ≡ bus
stays_high until bus moment n e h = rw (e, lt-leb n moment h)

module _ (d : Ssd1677) (display : Display) (m : ℕ) (u : UnderWay d display) (h : m < display.ends) where
  bus_stays : lowered d.bus.busy_until d.bus m ≡ d.bus
  bus_stays = let l = u.to_its_end in stays_high d.bus.busy_until d.bus m u.until u.busy (omega arith)

  quiet_under_way : UnderWay (with_bus (with_now d m) (lowered d.bus.busy_until d.bus m)) display
  quiet_under_way =
      subst (λ (b : Bus). UnderWay (with_bus (with_now d m) b) display) (sym bus_stays)
      (record {
        shown = u.shown;
        until = u.until;
        busy = u.busy;
        to_its_end = u.to_its_end;
        before_its_end = h;
        runs = u.runs;
        inert_command = u.inert_command;
      })

module _ (luts : List ℕ) (time : ℕ) (g : WithGlass) (due : Due g.device) where
  pub held_advanced : Held (advanced luts time g).device
  unfolding advanced
  held_advanced display is =
      -- a display that is left is the one before
      let same = ended_same luts (clocked time g) display is in
      let before : g.device.display ≡ Some display = subst (λ (x : WithGlass). x.device.display ≡ Some display) same is in
      let h = goes_on luts time g display is in
      subst (λ (x : WithGlass). UnderWay (quieted x).device display) (sym same)
      (quiet_under_way g.device display (max g.device.now time) (due display before (omega arith)) h)
