-- `scan::start` meets its contract: after y rows and x columns the first y * width + x LUTs are the definition's.
use mathlib.Core.Path.{◌≡◌, sym, subst}
use Prim.Native.Nat.{ℕ, ◌<◌, ◌*◌, ◌+◌}
use native.Mathlib.Nat.{add-mul, add-zero, zero-mul, add_assoc, mul-le-mul_right}
use native.Mathlib.Omega.{arith}
use lib.Arith.{digits_lt}
use Rattle.numbers.proofs.Painted.{painted_none, painted_more, painted_all, painted_again, painted_on, painted_at}
use Rattle.gates.specs.Gates.{row_or}
use Rattle.gates.proofs.Rows.{row_in_ram}
use Rattle.scan.proofs.Pixels.{pixel_is, source_lt}
use Rattle.scan.proofs.start.Goals as goal

pub loop-y-init : goal.loop-y-init
loop-y-init c = (painted_at (painted_none _ _) (sym (zero-mul _)), omega arith)

pub bounds-gates-y : goal.bounds-gates-y
bounds-gates-y c = omega arith

pub loop-x-init : goal.loop-x-init
loop-x-init c = (painted_at (painted_again c.loop-y.invariant.0) (sym (add-zero _)), omega arith)

pub source_of-source-requires : goal.source_of-source-requires
source_of-source-requires c = omega arith

pub lut_in_row-requires : goal.lut_in_row-requires
lut_in_row-requires c =
    let s = c in
    let x = c.loop-x.x in
    let row = c.ram_row_of_gate-row.ensures in record { whole_red = s.requires.whole_red; whole_black_white = s.requires.whole_black_white; in_ram = subst (λ r. row_or r 0 < 680) (sym row) (row_in_ram _ _ _); driven = omega (arith, c.source_of-source.ensures, source_lt s.args.geometry x c.loop-x-test.true s.requires.driven) }

-- the pixel in column x and row y lies in the buffer
within : (y x : ℕ) {h w n : ℕ} → n ≡ h * w → y < h → x < w → y * w + x < n
within y x {h} {w} {n} e k l = omega (arith, digits_lt {q = y} {r = x} {c = w} k l)

pub overflow_mul-luts : goal.overflow_mul-luts
overflow_mul-luts c = omega (arith, within c.loop-y.y c.loop-x.x c.requires.pixels c.loop-y-test.true c.loop-x-test.true)

pub overflow_add-luts : goal.overflow_add-luts
overflow_add-luts c = omega (arith, within c.loop-y.y c.loop-x.x c.requires.pixels c.loop-y-test.true c.loop-x-test.true)

pub bounds-luts-y : goal.bounds-luts-y
bounds-luts-y c = omega (arith, within c.loop-y.y c.loop-x.x c.requires.pixels c.loop-y-test.true c.loop-x-test.true)

pub overflow_step-x : goal.overflow_step-x
overflow_step-x c = omega arith

pub loop-x-smaller : goal.loop-x-smaller
loop-x-smaller c = omega arith

pub loop-x-preserved : goal.loop-x-preserved
loop-x-preserved c =
    let s = c in
    let y = c.loop-y.y in
    let x = c.loop-x.x in
    let right = c.loop-x-test.true in (
      painted_at
          (painted_more c.loop-x.invariant.0
          (omega (arith, within y x s.requires.pixels c.loop-y-test.true right))
          (pixel_is _ _ _ _ _ x y right c.ram_row_of_gate-row.ensures c.source_of-source.ensures c.lut_in_row.ensures))
          (add_assoc _ _ 1),
      omega arith,
    )

pub overflow_step-y : goal.overflow_step-y
overflow_step-y c = omega arith

pub loop-y-smaller : goal.loop-y-smaller
loop-y-smaller c = omega arith

pub loop-y-preserved : goal.loop-y-preserved
loop-y-preserved c =
    let s = c in
    let y = c.loop-y.y in
    (painted_on c.loop-y.invariant.0 c.loop-x.invariant.0 (omega arith) (omega (arith, add-mul y 1 s.args.geometry.width)), omega arith)

pub shape_of-luts : goal.shape_of-luts
shape_of-luts c = c.loop-y.invariant.0.long

pub returns : goal.returns
returns c =
    let s = c in
    painted_all c.loop-y.invariant.0 (omega (arith, mul-le-mul_right s.args.geometry.width c.loop-y-test.false, s.requires.pixels))
