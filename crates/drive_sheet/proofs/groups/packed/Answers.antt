-- `drive_sheet::groups::packed` meets its contract: each code stands in bits that the others leave free.
use Prim.Native.Nat.{◌+◌, ◌*◌, ◌%◌}
use native.Mathlib.Omega.{arith}
use lib.Bits.{bit_or}
use Rattle.drive_sheet.proofs.Beside.{beside}
use Rattle.drive_sheet.proofs.groups.packed.Goals as goal

pub returns : goal.returns
returns c =
    let a = c.args in
    let first = a.first * 64 % 256 in
    let second = a.second * 16 % 256 in
    let third = a.third * 4 % 256 in
    let p = beside 6 a.first first second (omega arith) (omega arith) in
    let q = beside 4 (4 * a.first + a.second) (bit_or first second) third (omega (arith, p)) (omega arith) in
    let r = beside 2 (16 * a.first + 4 * a.second + a.third) (bit_or (bit_or first second) third) a.fourth (omega (arith, p, q)) (omega arith) in
    omega (arith, p, q, r)
