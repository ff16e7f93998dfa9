-- A step stays below what bounds the counter and the window's end.
-- Assumes nothing.
use Rattle.std.specs.Prelude.{Some, None}
use mathlib.Core.Path.{◌≡◌, refl, ◌∙◌}
use mathlib.Core.Bool.{Bool, true, false}
use Prim.Native.Nat.{ℕ, ◌+◌, ◌-◌, ◌≤◌, ◌<◌}
use native.Mathlib.Omega.{arith}
use lib.Dec.{ltb, leb}
use borrow.Author.Tests.{ltb-true, ltb-false, leb-false, lt-ltb, lt-leb, le-leb}
use Rattle.numbers.specs.Choice.{pick, bit_of}
use Rattle.counter.specs.declared.Window.{Window}
use Rattle.counter.specs.declared.Counter.{Counter}
use Rattle.counter.specs.declared.Entry.{Entry}
use Rattle.counter.specs.Counter.{axis_step}

never : {n : ℕ} → Some n ≡ None → ⊥
never e = let z : ◌≡◌ {A = ℕ} 0 1 = cc in omega arith

module _ (at end bound n : ℕ) (p : at ≤ bound) (q : end ≤ bound) where
  pub step_below : (increments : Bool) → Some n ≡ axis_step increments at end → n ≤ bound
  unfolding axis_step
  step_below true h = by (ltb at end) refl h
    where
      by : (t : Bool) → ltb at end ≡ t → Some n ≡ pick t (Some (at + 1)) None → n ≤ bound
      by true e h = let m : n ≡ at + 1 = cc in omega (arith, ltb-true at end e)
      by false e h = absurd (never h)
  step_below false h = by (ltb end at) refl h
    where
      by : (t : Bool) → ltb end at ≡ t → Some n ≡ pick t (Some (at - 1)) None → n ≤ bound
      by true e h = let m : n ≡ at - 1 = cc in omega arith
      by false e h = absurd (never h)
