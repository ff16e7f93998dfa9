-- What each return of the code hands over, over plain variables. Assumes nothing.
use Rattle.std.specs.Prelude.{Option, Some, None}
use Prim.Native.Nat.{ℕ, ◌≤◌, ◌<◌}
use mathlib.Core.Path.{◌≡◌}
use mathlib.Core.Bool.{Bool, true, false}
use lib.Dec.{leb}
use borrow.Author.Tests.{lt-ltb, le-ltb}
use Rattle.device.specs.declared.Bus.{Bus}
use Rattle.device.specs.Parts.{with_until}
use Rattle.moment.specs.Moments.{after_ns, has_come, lowered, busy_for}

module _ (bus : Bus) (until : Option ℕ) (moment : ℕ) (come : Bool) (tells : come ≡ has_come until moment) where
  pub falls : (r : Bus) → come ≡ true → r ≡ with_until bus None → r ≡ lowered until bus moment
  falls r h e = rw (← tells, h) e

  pub stays : come ≡ false → bus ≡ lowered until bus moment
  stays h = rw (← tells, h)

module _ (bus : Bus) (frequency moment ns : ℕ) where
  pub rises : (r : Bus) (until : ℕ) → 0 < ns → until ≡ after_ns frequency moment ns → r ≡ with_until bus (Some until) → r ≡ busy_for bus frequency moment ns
  unfolding busy_for
  rises r until h e f = rw (lt-ltb 0 ns h, ← e) f

  pub rises_not : ns ≤ 0 → bus ≡ busy_for bus frequency moment ns
  unfolding busy_for
  rises_not h = rw (le-ltb 0 ns h)

pub comes : (u : Option ℕ) (moment until : ℕ) → u ≡ Some until → leb until moment ≡ has_come u moment
comes u moment until is = rw is
