-- The number of a LUT that drives pixels is that of its variant in order. Assumes nothing.
use mathlib.Core.Path.{◌≡◌, refl}
use Prim.Native.Nat.{◌<◌}
use native.Mathlib.Omega.{arith}
use denote.Enum.Declared.{tag_of}
use Rattle.charges.specs.contracts.PixelLut.{the_type}
use Rattle.charges.specs.declared.PixelLut.{PixelLut}
use Rattle.charges.specs.declared.PixelLut.TheVariants.{Lut0, Lut1, Lut2, Lut3}
use Rattle.charges.specs.Charge.{lut_number}

pub lut_is : (lut : PixelLut) → tag_of the_type lut ≡ lut_number lut
lut_is Lut0 = refl
lut_is Lut1 = refl
lut_is Lut2 = refl
lut_is Lut3 = refl

pub below_4 : (lut : PixelLut) → lut_number lut < 4
below_4 Lut0 = omega arith
below_4 Lut1 = omega arith
below_4 Lut2 = omega arith
below_4 Lut3 = omega arith
