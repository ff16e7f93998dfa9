-- Two whole numbers as one: the definition's test, and the code's, which compares bits. Assumes nothing.
use mathlib.Core.Path.{◌≡◌, refl, sym, ap}
use mathlib.Core.Bool.{Bool, true, false}
use native.Mathlib.Omega.{arith}
use lib.Dec.{eqb}
use lib.IntN.{ℤ}
use lib.Signed.{le_z}
use borrow.Author.Tests.{eqb-true, eqb-false}
use mir.Syntax.{w64}
use mir.Val.{SFits, of_z}
use Rattle.numbers.proofs.Cases.{left, right}
use Rattle.numbers.proofs.Lin.{le_true, is_le, eq_in, same_bits}
use Rattle.drive_sheet.specs.Supplies.{same_z}

-- a number is itself
pub same_self : (z : ℤ) → same_z z z ≡ true
same_self z = rw (is_le z z (omega arith))

pub same_is : (a b : ℤ) → a ≡ b → same_z a b ≡ true
same_is a b e = rw e (same_self b)

-- the two that pass the test are one
pub same_true : (a b : ℤ) → same_z a b ≡ true → a ≡ b
same_true a b e =
    let f = le_true a b (left (le_z a b) (le_z b a) e) in
    let g = le_true b a (right (le_z a b) (le_z b a) e) in
    eq_in a b (omega arith)

pub same_not : (a b : ℤ) → (a ≡ b → ⊥) → same_z a b ≡ false
same_not a b h = by (same_z a b) refl
  where
    by : (t : Bool) → same_z a b ≡ t → t ≡ false
    by false e = refl
    by true e = absurd (h (same_true a b e))

-- `==` of two numbers of 64 bits
pub bits_same : (a b : ℤ) → SFits w64 a → SFits w64 b → eqb (of_z w64 a) (of_z w64 b) ≡ same_z a b
bits_same a b fa fb = by (eqb (of_z w64 a) (of_z w64 b)) refl
  where
    by : (t : Bool) → eqb (of_z w64 a) (of_z w64 b) ≡ t → t ≡ same_z a b
    by true e = sym (same_is a b (same_bits fa fb (eqb-true (of_z w64 a) (of_z w64 b) e)))
    by false e = sym (same_not a b (λ s. eqb-false (of_z w64 a) (of_z w64 b) e (ap (of_z w64) s)))
