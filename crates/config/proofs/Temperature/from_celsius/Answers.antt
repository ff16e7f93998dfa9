-- `config::Temperature::from_celsius` meets its contract: sixteen times an i8 fits an i16.
use mathlib.Core.Path.{ap, ◌∙◌}
use Prim.Native.Nat.{ℕ, ◌≤◌}
use native.Mathlib.Nat.{mul-le-mul}
use lib.Dec.{lit≤}
use lib.IntN.{ℤ, pos, ◌*ℤ◌}
use mir.Syntax.{w8, w16}
use mir.Val.{SFits, to_z, of_z}
use Rattle.numbers.proofs.Lin.{whole, up, down, ranged, back, fits_is, scale_up, scale_down, up_le, down_le}
use Rattle.config.proofs.Temperature.from_celsius.Goals.{Start}
use Rattle.config.proofs.Temperature.from_celsius.Goals as goal

pub overflow_cast-result : goal.overflow_cast-result
overflow_cast-result c = fits_is (omega (whole, ranged c.ranges.celsius))

-- the number of degrees, as it is read back from eight bits
abbrev degrees : Start → ℤ
degrees c = to_z w8 (of_z w8 c.args.celsius)

abbrev wide : Start → ℤ
wide c = to_z w16 (of_z w16 (degrees c))

-- a multiple by at most 16 of a number of eight bits
small : (k : ℕ) (z : ℤ) → k ≤ 16 → up z ≤ 128 → down z ≤ 128 → SFits w16 (pos k *ℤ z)
small k z h u d = fits_is (omega (whole, scale_up k z, scale_down k z, mul-le-mul h u, mul-le-mul h d))

pub overflow_mul-result : goal.overflow_mul-result
overflow_mul-result c =
    let f = ranged c.ranges.celsius in
    let g = ranged (overflow_cast-result c) in
    small _ (wide c) (lit≤ tt) (up_le (wide c) 128 (omega whole)) (down_le (wide c) 128 (omega whole))

pub returns : goal.returns
returns c = back (overflow_mul-result c) ∙ ap (λ (z : ℤ). pos 16 *ℤ z) (back (overflow_cast-result c) ∙ back c.ranges.celsius)
