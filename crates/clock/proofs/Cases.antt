-- What each return of the code hands over, over plain variables. Assumes nothing.
use Rattle.std.specs.Prelude.{Option, Some, None}
use Prim.Native.Nat.{ℕ, ◌≤◌, ◌<◌, max}
use mathlib.Core.Path.{◌≡◌, refl, sym, ap, subst, ◌∙◌}
use mathlib.Core.Bool.{Bool, true, false, ◌&&◌, not}
use mathlib.Core.List.{List}
use native.Mathlib.Omega.{arith}
use lib.Dec.{leb}
use borrow.Author.Tests.{le-leb, lt-leb, leb-false}
use Rattle.panel.specs.declared.Display.{Display}
use Rattle.panel.specs.End.{display_end}
use Rattle.panel.specs.Finish.{Glass, finished}
use Rattle.device.specs.declared.Ssd1677.{Ssd1677}
use Rattle.device.specs.declared.Bus.{Bus}
use Rattle.device.specs.Parts.{with_now, with_bus}
use Rattle.device.specs.Parts as part
use Rattle.world.specs.World.{WithGlass, with_glass}
use Rattle.moment.specs.Moments.{has_come, lowered}
use Rattle.clock.specs.Advance.{ending_of, glass_of, is_quiet, ended, quieted, clocked, advanced}

module _ (luts : List ℕ) (g : WithGlass) where
  pub ends_none : g.device.display ≡ None → g ≡ ended luts g
  unfolding ended
  ends_none is = rw is

  module _ (display : Display) (is : g.device.display ≡ Some display) where
    pub ends : (after : Glass) (r : Ssd1677) → display.ends ≤ g.device.now
        → after ≡ finished (ending_of g.device display display.ends None) luts (glass_of g)
        → r ≡ part.with_panel_and_display g.device after.panel None
        → with_glass r after.states after.picture ≡ ended luts g
    unfolding ended
    ends after r h e k = rw (is, le-leb display.ends g.device.now h, ← e, k)

    pub ends_not : g.device.now < display.ends → g ≡ ended luts g
    unfolding ended
    ends_not h = rw (is, lt-leb display.ends g.device.now h)

-- neither has come
neither : (over come : Bool) → (not over && not come) ≡ true → (over ≡ false) × (come ≡ false)
neither true come e = absurd (let z : ◌≡◌ {A = ℕ} 0 1 = cc in omega arith)
neither false true e = absurd (let z : ◌≡◌ {A = ℕ} 0 1 = cc in omega arith)
neither false false e = (refl, refl)

-- before its time BUSY does not fall
still : (until : Option ℕ) (bus : Bus) (moment : ℕ) → has_come until moment ≡ false → lowered until bus moment ≡ bus
still until bus moment h = rw h

-- before its end a display goes on
stands : (luts : List ℕ) (g : WithGlass) → has_come (display_end g.device.display) g.device.now ≡ false → g ≡ ended luts g
stands luts g h = by g.device.display refl
  where
    by : (o : Option Display) → g.device.display ≡ o → g ≡ ended luts g
    by None is = ends_none luts g is
    by (Some display) is =
        ends_not luts g display is
        (leb-false display.ends g.device.now (subst (λ (x : Option Display). has_come (display_end x) g.device.now ≡ false) is h))

settled : (g : WithGlass) → has_come g.device.bus.busy_until g.device.now ≡ false → quieted g ≡ g
settled g h = rw (still g.device.bus.busy_until g.device.bus g.device.now h)

module _ (luts : List ℕ) (time : ℕ) (g : WithGlass) where
  -- a state that the clock's move leaves quiet is moved
  pub rests : (m : Ssd1677) (q : Bool) → m ≡ with_now g.device (max g.device.now time) → q ≡ is_quiet m → q ≡ true
      → with_glass m g.states g.picture ≡ advanced luts time g
  unfolding advanced
  rests m q e f h =
      let k = clocked time g in
      let ends = display_end g.device.display in
      let n = neither (has_come ends k.device.now) (has_come k.device.bus.busy_until k.device.now) (subst (λ (x : Ssd1677). is_quiet x ≡ true) e (sym f ∙ h)) in
      rw e (sym (settled k n.1) ∙ ap (λ (x : WithGlass). quieted x) (stands luts k n.0))

  pub advances : (a : Ssd1677) (b : WithGlass) (bus : Bus) (r : Ssd1677) → a ≡ with_now g.device (max g.device.now time)
      → b ≡ ended luts (with_glass a g.states g.picture) → bus ≡ lowered b.device.bus.busy_until b.device.bus b.device.now
      → r ≡ with_bus b.device bus → with_glass r b.states b.picture ≡ advanced luts time g
  unfolding advanced
  advances a b bus r e₁ e₂ e₃ e₄ = rw (e₄, e₃, e₂, e₁)

pub moves : (d r : Ssd1677) (time n : ℕ) → n ≡ max d.now time → r ≡ with_now d n → r ≡ with_now d (max d.now time)
moves d r time n e f = rw (f, e)
