-- `config::Temperature::from_register` meets its contract: the mask is the remainder by 4096, and bit 11 tells its half.
use mathlib.Core.Path.{◌≡◌, refl, ap, ◌∙◌}
use mathlib.Core.Bool.{Bool, true, false}
use Prim.Native.Nat.{ℕ, ◌*◌, ◌/◌, ◌%◌, ◌≤◌}
use native.Mathlib.Nat.{mod-eq_of_lt}
use native.Mathlib.Omega.{arith}
use lib.Dec.{leb}
use lib.IntN.{ℤ, pos, ◌-ℤ◌}
use lib.Bits.{bit_and, and_mask, and_high}
use borrow.Author.Tests.{leb-true, leb-false}
use mir.Syntax.{w16}
use mir.Val.{SFits, to_z}
use Rattle.numbers.proofs.Lin.{whole, back, fits_is, sub_out, eq_out}
use Rattle.config.proofs.Registers.{low_half, high_half}
use Rattle.config.proofs.Temperature.from_register.Goals as goal

module _ (r : ℕ) where
  mask : bit_and r 4095 ≡ r % 4096
  mask = and_mask r 12

  bit : bit_and (bit_and r 4095) 2048 ≡ r % 4096 / 2048 * 2048
  bit =
      ap (λ (n : ℕ). bit_and n 2048) mask ∙ and_high (r % 4096) 1 11
      ∙ ap (λ (n : ℕ). n * 2048) (mod-eq_of_lt {n = r % 4096 / 2048} {m = 2} (omega arith))

  by : (bit_and (bit_and r 4095) 2048 ≡ 0 → ⊥) → 2048 ≤ r % 4096
  by h = known (leb 2048 (r % 4096)) refl
    where
      known : (t : Bool) → leb 2048 (r % 4096) ≡ t → 2048 ≤ r % 4096
      known true e = leb-true 2048 (r % 4096) e
      known false e = absurd (h (omega (arith, bit, leb-false 2048 (r % 4096) e)))

  fits : SFits w16 (pos (bit_and r 4095))
  fits = record { sfits = omega (arith, mask) }

  read : to_z w16 (bit_and r 4095) ≡ pos (r % 4096)
  read = back fits ∙ ap pos mask

pub overflow_cast-result : goal.overflow_cast-result
overflow_cast-result c = fits c.args.register

pub returns-then-value-eq0 : goal.returns-then-value-eq0
returns-then-value-eq0 c =
    let r = c.args.register in
    let t : bit_and (bit_and r 4095) 2048 ≡ 0 = c.if-value-eq0.true in
    read r ∙ low_half r (omega (arith, bit r))

pub overflow_cast-result-2 : goal.overflow_cast-result-2
overflow_cast-result-2 c = fits c.args.register

pub overflow_sub-result : goal.overflow_sub-result
overflow_sub-result c =
    let r = c.args.register in
    fits_is (omega (whole, eq_out (read r), sub_out (to_z w16 (bit_and r 4095)) (pos 4096)))

pub returns : goal.returns
returns c =
    let r = c.args.register in
    let h : 2048 ≤ r % 4096 = by r c.if-value-eq0.false in
    back (overflow_sub-result c) ∙ ap (λ (z : ℤ). z -ℤ pos 4096) (read r) ∙ high_half r (omega (arith, h))
