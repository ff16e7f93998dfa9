-- Two deadlines, over plain variables. Assumes nothing.
use Rattle.std.specs.Prelude.{Option, Some, None}
use Prim.Native.Nat.{ℕ, min}
use mathlib.Core.Path.{◌≡◌}
use Rattle.busy.specs.Busy.{earlier}

pub the_other : (one other : Option ℕ) → one ≡ None → other ≡ earlier one other
unfolding earlier
the_other one other e = rw e

pub the_one : (one other : Option ℕ) (a : ℕ) → one ≡ Some a → other ≡ None → Some a ≡ earlier one other
unfolding earlier
the_one one other a e f = rw (e, f)

pub of_two : (one other : Option ℕ) (a b m : ℕ) → one ≡ Some a → other ≡ Some b → m ≡ min a b → Some m ≡ earlier one other
unfolding earlier
of_two one other a b m e f g = rw (e, f, g)
