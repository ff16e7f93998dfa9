-- Registers and sixteenths of a degree: what stands for what, and the range. Assumes nothing.
use mathlib.Core.Path.{◌≡◌, refl, ap, ◌∙◌}
use mathlib.Core.Bool.{Bool, true, false}
use Prim.Native.Nat.{ℕ, ◌+◌, ◌-◌, ◌%◌, ◌≤◌, ◌<◌}
use native.Mathlib.Omega.{arith}
use lib.Dec.{ltb}
use lib.IntN.{ℤ, pos, negsuc, nat_abs, ◌-ℤ◌}
use borrow.Author.Tests.{ltb-true, ltb-false, lt-ltb, le-ltb}
use Rattle.numbers.proofs.Lin.{up, down, Lt, whole, sub_out, eq_in}
use Rattle.config.specs.Temperature.{sixteenths_of, register_of}

pub low_half : (r : ℕ) → r % 4096 < 2048 → pos (r % 4096) ≡ sixteenths_of r
unfolding sixteenths_of
low_half r h = rw (lt-ltb _ _ h)

pub high_half : (r : ℕ) → 2048 ≤ r % 4096 → pos (r % 4096) -ℤ pos 4096 ≡ sixteenths_of r
unfolding sixteenths_of
high_half r h = rw (le-ltb _ _ h)

-- the upper half, as the number below 0 that it is
pub high_below : (r : ℕ) → 2048 ≤ r % 4096 → negsuc (4095 - r % 4096) ≡ sixteenths_of r
high_below r h = eq_in (negsuc (4095 - r % 4096)) (pos (r % 4096) -ℤ pos 4096) (omega (whole, sub_out (pos (r % 4096)) (pos 4096))) ∙ high_half r h

pub at_or_above : (z : ℤ) → down z ≡ 0 → nat_abs z % 4096 ≡ register_of z
unfolding register_of
at_or_above (pos n) h = refl
at_or_above (negsuc n) h = absurd (omega arith)

pub below : (z : ℤ) (m : ℕ) → m + 1 ≡ down z → 4095 - m % 4096 ≡ register_of z
unfolding register_of
below (pos n) m h = absurd (omega arith)
below (negsuc n) m h = let e : m ≡ n = omega arith in rw e

-- of a register the low twelve bits count
pub low_bits : (r : ℕ) → sixteenths_of (r % 4096) ≡ sixteenths_of r
unfolding sixteenths_of
low_bits r = let e : r % 4096 % 4096 ≡ r % 4096 = omega arith in rw e

pub record Ranged (r : ℕ) : Type 0 where
  pub bottom : down (sixteenths_of r) ≤ 2048
  pub top : up (sixteenths_of r) ≤ 2047

pub ranged : (r : ℕ) → Ranged r
ranged r = by (ltb (r % 4096) 2048) refl
  where
    by : (t : Bool) → ltb (r % 4096) 2048 ≡ t → Ranged r
    by true e =
        let h = ltb-true (r % 4096) 2048 e in
        let s = low_half r h in
        record { bottom = omega (arith, ap down s); top = omega (arith, ap up s) }
    by false e =
        let h = ltb-false (r % 4096) 2048 e in
        let s = high_below r h in
        record { bottom = omega (arith, ap down s); top = omega (arith, ap up s) }

-- every register but 800h stands for a temperature above the coldest
pub above_coldest : (r : ℕ) → (r % 4096 ≡ 0x800 → ⊥) → Lt (negsuc 2047) (sixteenths_of r)
above_coldest r h = by (ltb (r % 4096) 2048) refl
  where
    by : (t : Bool) → ltb (r % 4096) 2048 ≡ t → Lt (negsuc 2047) (sixteenths_of r)
    by true e = omega (arith, ap down (low_half r (ltb-true (r % 4096) 2048 e)), ap up (low_half r (ltb-true (r % 4096) 2048 e)))
    by false e =
        let k = ltb-false (r % 4096) 2048 e in
        omega (arith, h, ap down (high_below r k), ap up (high_below r k))
