-- Tests joined by `&`, and the answer of an arm that was taken. Assumes nothing.
use Prim.Native.Nat.{ℕ, ◌≤◌}
use mathlib.Core.Path.{◌≡◌, refl}
use mathlib.Core.Bool.{Bool, true, false, ◌&&◌}
use lib.Dec.{leb}
use borrow.Author.Tests.{leb-true}
use native.Mathlib.Omega.{arith}
use Rattle.numbers.specs.Choice.{pick}

pub left : (a b : Bool) → a && b ≡ true → a ≡ true
left true b e = refl
left false b e = e

pub right : (a b : Bool) → a && b ≡ true → b ≡ true
right true b e = e
right false b e = absurd (never e)
  where
    never : false ≡ true → ⊥
    never e = let z : ◌≡◌ {A = ℕ} 0 1 = cc in omega arith

pub at_most : (a : Bool) (m n : ℕ) → a && leb m n ≡ true → m ≤ n
at_most a m n e = leb-true m n (right a (leb m n) e)

-- what holds of the answer of the arm that was taken
pub took : {A : Type 0} (b : Bool) (x y z : A) → b ≡ true → z ≡ x → z ≡ pick b x y
took b x y z h e = rw h e

pub passed : {A : Type 0} (b : Bool) (x y z : A) → b ≡ false → z ≡ y → z ≡ pick b x y
passed b x y z h e = rw h e
