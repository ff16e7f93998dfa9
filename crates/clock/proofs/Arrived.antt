-- The clock's move, part by part: what it leaves of a state as it was, and the length of the states. Assumes nothing.
use Rattle.std.specs.Prelude.{Option, Some, None}
use Prim.Native.Nat.{ℕ, ◌<◌, max}
use mathlib.Core.Path.{◌≡◌, refl, ap, subst, ◌∙◌}
use mathlib.Core.Bool.{Bool, true, false}
use mathlib.Core.List.{List}
use native.Mathlib.Omega.{arith}
use lib.Dec.{leb}
use lib.ListN.{length}
use borrow.Author.Tests.{leb-false}
use Rattle.numbers.specs.Choice.{pick}
use Rattle.panel.specs.declared.Display.{Display}
use Rattle.panel.specs.End.{display_end}
use Rattle.panel.specs.Finish.{finished}
use Rattle.panel.specs.Finish as glass
use Rattle.panel_laws.proofs.Exactly.{states_length}
use Rattle.moment.specs.Moments.{has_come}
use Rattle.moment.proofs.Current.{current_lowered}
use Rattle.world.specs.World.{WithGlass}
use Rattle.clock.specs.Advance.{ending_of, glass_of, glass_published, ended_by, ended, clocked, advanced}

-- what holds of a state and of its glass with a display finished holds after the end of a display, whether it has come or not
pub ended_holds : (P : WithGlass → Type 0) (luts : List ℕ) (g : WithGlass)
    → ((display : Display) → P (glass_published g (finished (ending_of g.device display display.ends None) luts (glass_of g)))) → P g → P (ended luts g)
unfolding ended
ended_holds P luts g come rest = by g.device.display
  where
    at : (display : Display) (b : Bool)
        → P (pick b (glass_published g (finished (ending_of g.device display display.ends None) luts (glass_of g))) g)
    at display true = come display
    at display false = rest

    by : (o : Option Display) → P (ended_by luts g o)
    by None = rest
    by (Some display) = at display (leb display.ends g.device.now)

-- what the end of a display leaves, whether it has come or not
ended_leaves : {A : Type 0} (f : WithGlass → A) (luts : List ℕ) (g : WithGlass)
    → ((display : Display) → f (glass_published g (finished (ending_of g.device display display.ends None) luts (glass_of g))) ≡ f g) → f (ended luts g) ≡ f g
ended_leaves f luts g e = ended_holds (λ (x : WithGlass). f x ≡ f g) luts g e refl

-- None is no Some
pub none_some : {A : Type 0} (x : A) → ◌≡◌ {A = Option A} None (Some x) → ⊥
none_some x e = let z : ◌≡◌ {A = ℕ} 0 1 = cc in omega arith

-- a display that is left has not reached its end
unended : (luts : List ℕ) (g : WithGlass) → has_come (display_end (ended luts g).device.display) g.device.now ≡ false
unfolding ended
unended luts g = by g.device.display refl
  where
    comes : Option Display → Bool
    comes o = has_come (display_end o) g.device.now

    at : (display : Display) (b : Bool) → leb display.ends g.device.now ≡ b → g.device.display ≡ Some display
        → comes (pick b (glass_published g (finished (ending_of g.device display display.ends None) luts (glass_of g))) g).device.display ≡ false
    at display true e is = refl
    at display false e is = ap comes is ∙ e

    by : (o : Option Display) → g.device.display ≡ o → comes (ended_by luts g o).device.display ≡ false
    by None is = ap comes is
    by (Some display) is = at display (leb display.ends g.device.now) refl is

-- and the state is then as it was
pub ended_same : (luts : List ℕ) (g : WithGlass) (display : Display) → (ended luts g).device.display ≡ Some display → ended luts g ≡ g
unfolding ended
ended_same luts g display = by g.device.display
  where
    at : (d : Display) (b : Bool)
        → (pick b (glass_published g (finished (ending_of g.device d d.ends None) luts (glass_of g))) g).device.display ≡ Some display
        → pick b (glass_published g (finished (ending_of g.device d d.ends None) luts (glass_of g))) g ≡ g
    at d true e = absurd (none_some display e)
    at d false e = refl

    by : (o : Option Display) → (ended_by luts g o).device.display ≡ Some display → ended_by luts g o ≡ g
    by None e = refl
    by (Some d) e = at d (leb d.ends g.device.now) e

module _ (luts : List ℕ) (time : ℕ) (g : WithGlass) where
  -- a display that is left after the clock's move goes on past the present
  pub goes_on : (display : Display) → (advanced luts time g).device.display ≡ Some display → max g.device.now time < display.ends
  unfolding advanced
  goes_on display e =
      leb-false display.ends (max g.device.now time)
      (subst (λ (o : Option Display). has_come (display_end o) (max g.device.now time) ≡ false) e (unended luts (clocked time g)))

  pub config_advanced : (advanced luts time g).device.config ≡ g.device.config
  unfolding advanced
  config_advanced = ended_leaves (λ (x : WithGlass). x.device.config) luts (clocked time g) (λ _. refl)

  pub swing_advanced : (advanced luts time g).device.panel.swing ≡ g.device.panel.swing
  unfolding advanced finished glass.published
  swing_advanced = ended_leaves (λ (x : WithGlass). x.device.panel.swing) luts (clocked time g) (λ _. refl)

  pub regs_advanced : (advanced luts time g).device.regs ≡ g.device.regs
  unfolding advanced
  regs_advanced = ended_leaves (λ (x : WithGlass). x.device.regs) luts (clocked time g) (λ _. refl)

  pub journal_advanced : (advanced luts time g).device.journal ≡ g.device.journal
  unfolding advanced
  journal_advanced = ended_leaves (λ (x : WithGlass). x.device.journal) luts (clocked time g) (λ _. refl)

  pub current_advanced : (advanced luts time g).device.bus.current ≡ g.device.bus.current
  unfolding advanced
  current_advanced =
      let e = ended luts (clocked time g) in
      current_lowered e.device.bus.busy_until e.device.bus e.device.now
      ∙ ended_leaves (λ (x : WithGlass). x.device.bus.current) luts (clocked time g) (λ _. refl)

  pub states_advanced : length (advanced luts time g).states ≡ length g.states
  unfolding advanced finished
  states_advanced = ended_leaves (λ (x : WithGlass). length x.states) luts (clocked time g) (λ _. states_length _ luts g.states)
