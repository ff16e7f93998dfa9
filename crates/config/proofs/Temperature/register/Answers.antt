-- `config::Temperature::register` meets its contract: a number below 0 is counted down from 4095.
use mathlib.Core.Path.{◌≡◌, ap, ◌∙◌}
use Prim.Native.Nat.{◌+◌, ◌%◌}
use lib.IntN.{ℤ, pos, nat_abs, ◌+ℤ◌, ◌-ℤ◌}
use mir.Syntax.{w16}
use mir.Val.{SFits, to_z, of_z}
use Rattle.numbers.proofs.Lin.{whole, down, ranged, add_out, sub_out, fits_is, unsigned, abs_pos, abs_back, back, down_le, up_le}
use Rattle.config.proofs.Registers.{at_or_above, below}
use Rattle.config.proofs.Temperature.register.Goals.{Then-sixteenths-lt0}
use Rattle.config.proofs.Temperature.register.Goals as goal

-- as it is read back from sixteen bits
abbrev rd : ℤ → ℤ
rd z = to_z w16 (of_z w16 z)

abbrev next : ℤ → ℤ
next a = rd a +ℤ pos 1

abbrev minus : ℤ → ℤ
minus a = pos 0 -ℤ rd (next a)

field : (c : Then-sixteenths-lt0) → SFits w16 c.args.self.0
field c = record { sfits = c.struct_told-1.given.0.1 }

pub overflow_add-result : goal.overflow_add-result
overflow_add-result c = fits_is (omega (whole, ranged (field c), add_out (rd c.args.self.0) (pos 1)))

pub overflow_sub-result : goal.overflow_sub-result
overflow_sub-result c =
    let a = c.args.self.0 in
    fits_is (omega (whole, ranged (field c), ranged (overflow_add-result c), add_out (rd a) (pos 1), sub_out (pos 0) (rd (next a))))

pub overflow_cast-result : goal.overflow_cast-result
overflow_cast-result c =
    let a = c.args.self.0 in
    unsigned {z = minus a} (overflow_sub-result c) (omega (whole, ranged (field c), ranged (overflow_add-result c), add_out (rd a) (pos 1), sub_out (pos 0) (rd (next a))))

size : (c : Then-sixteenths-lt0) → nat_abs (rd (minus c.args.self.0)) + 1 ≡ down c.args.self.0
size c =
    let a = c.args.self.0 in
    let f = ranged (field c) in
    let g = ranged {z = next a} (overflow_add-result c) in
    let d = sub_out (pos 0) (rd (next a)) in
    let e = add_out (rd a) (pos 1) in
    let u = up_le a 0 (omega whole) in
    omega (whole, abs_back {z = minus a} (overflow_sub-result c), abs_pos (minus a) (omega whole))

pub returns-then-sixteenths-lt0 : goal.returns-then-sixteenths-lt0
returns-then-sixteenths-lt0 c = below c.args.self.0 _ (size c)

pub overflow_cast-result-2 : goal.overflow_cast-result-2
overflow_cast-result-2 c = let f : SFits w16 c.args.self.0 = record { sfits = c.struct_told-1.given.0.1 } in unsigned f (omega (whole, ranged f))

pub returns : goal.returns
returns c =
    let a = c.args.self.0 in
    let f : SFits w16 a = record { sfits = c.struct_told-1.given.0.1 } in
    ap (λ (z : ℤ). nat_abs z % 4096) (back f) ∙ at_or_above a (omega (whole, ranged f, down_le a 0 (omega (whole, ranged f))))
