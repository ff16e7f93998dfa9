-- `drive_sheet::groups::rates_byte` meets its contract.
use Prim.Native.Nat.{◌*◌, ◌%◌}
use native.Mathlib.Omega.{arith}
use Rattle.drive_sheet.specs.Bytes.{rates_byte}
use Rattle.drive_sheet.proofs.Beside.{beside}
use Rattle.drive_sheet.proofs.Passes.{rate_below}
use Rattle.drive_sheet.proofs.groups.rates_byte.Goals as goal

pub overflow_cast-result : goal.overflow_cast-result
overflow_cast-result c =
    let s = c in
    record { fits = omega (arith, rate_below s.args.even s.requires.0, rate_below s.args.odd s.requires.1) }

pub overflow_cast-result-2 : goal.overflow_cast-result-2
overflow_cast-result-2 c =
    let s = c in
    record { fits = omega (arith, rate_below s.args.even s.requires.0, rate_below s.args.odd s.requires.1) }

pub returns : goal.returns
unfolding rates_byte
returns c =
    let s = c in
    let e = rate_below s.args.even s.requires.0 in
    let o = rate_below s.args.odd s.requires.1 in
    let p = beside 4 s.args.even.frame_rate (s.args.even.frame_rate * 16 % 256) s.args.odd.frame_rate (omega arith) (omega arith) in
    omega (arith, p)
