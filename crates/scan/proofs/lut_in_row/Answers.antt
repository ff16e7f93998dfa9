-- `scan::lut_in_row` meets its contract: the calls' answers, put into the definition.
use mathlib.Core.Path.{subst}
use Prim.Native.Nat.{◌<◌}
use native.Mathlib.Omega.{arith}
use Rattle.gates.specs.Gates.{row_or}
use Rattle.scan.specs.Luts.{lut_in_row, lut_of_pixels}
use Rattle.scan.proofs.lut_in_row.Goals as goal

pub returns-in_default : goal.returns-in_default
unfolding lut_in_row
returns-in_default c = rw c.in_default.is

pub bit_in_row-requires : goal.bit_in_row-requires
bit_in_row-requires c =
    let s = c in record { whole = omega arith; in_ram = subst (λ r. row_or r 0 < 680) c.in-Some.is s.requires.in_ram; driven = omega arith }

pub bit_in_row-requires-2 : goal.bit_in_row-requires-2
bit_in_row-requires-2 c =
    let s = c in record { whole = omega arith; in_ram = subst (λ r. row_or r 0 < 680) c.in-Some.is s.requires.in_ram; driven = omega arith }

pub returns : goal.returns
unfolding lut_in_row lut_of_pixels
returns c =
    let b = c in
    rw (b.in-Some.is, ← b.bit_in_row.ensures, ← c.bit_in_row-2.ensures, ← c.apply-high.ensures, ← c.apply-low.ensures)
    c.lut_of_bits.ensures
