-- A number below its limit, and one that is not. Assumes nothing.
use Rattle.std.specs.Prelude.{Option, None}
use mathlib.Core.Path.{◌≡◌, refl}
use Prim.Native.Nat.{ℕ, ◌<◌, ◌≤◌}
use borrow.Author.Tests.{lt-ltb, le-ltb}
use Rattle.numbers.proofs.Cases.{took, passed}
use Rattle.line.specs.Lines.{within}
use Rattle.line.specs.declared.Line.{Line}

pub below : {r : Option Line} (n limit : ℕ) (line : Option Line) → n < limit → r ≡ line → r ≡ within n limit line
unfolding within
below n limit line h e = took _ _ _ _ (lt-ltb n limit h) e

pub above : (n limit : ℕ) (line : Option Line) → limit ≤ n → None ≡ within n limit line
unfolding within
above n limit line h = passed _ _ _ _ (le-ltb n limit h) refl
