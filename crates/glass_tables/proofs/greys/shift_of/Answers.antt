-- `glass_tables::greys::shift_of` meets its contract: while 512 steps do not reach, a step of twice the length is no longer than a grey.
-- Assumes nothing.
use mathlib.Core.Path.{◌≡◌, ap, subst, ◌∙◌}
use Prim.Native.Nat.{ℕ, ◌+◌, ◌*◌, ◌/◌, ◌^◌, ◌≤◌, ◌<◌}
use native.Mathlib.Omega.{arith}
use native.Mathlib.Numerals.{add-one}
use native.Mathlib.Nat.{le-div_iff_mul-le, pow-succ'}
use lib.Pow.{pow_pos, shr_lt}
use Rattle.glass_tables.proofs.greys.shift_of.Goals as goal

double : (k : ℕ) → 2 ^ (k + 1) ≡ 2 * 2 ^ k
double k = ap (λ (n : ℕ). 2 ^ n) (add-one k) ∙ pow-succ' 2 k

longer : (n k : ℕ) → 512 ≤ n / 2 ^ k → 255 * 2 ^ (k + 1) ≤ n + 255
longer n k h = omega (arith, double k, (le-div_iff_mul-le {k = 2 ^ k} {x = 512} {y = n} (pow_pos k)).0 h)

pub loop-shift-init : goal.loop-shift-init
loop-shift-init c = (omega arith, omega arith)

pub overflow_shr-swing : goal.overflow_shr-swing
overflow_shr-swing c = omega arith

pub returns-then-swing-shift-lt512 : goal.returns-then-swing-shift-lt512
returns-then-swing-shift-lt512 c =
    let m = c in
    record { small = m.loop-shift.invariant.0; few = c.if-swing-shift-lt512.true; fine = m.loop-shift.invariant.1 }

pub loop-shift-preserved : goal.loop-shift-preserved
loop-shift-preserved c =
    let m = c in
    (omega arith, longer m.args.swing m.loop-shift.shift c.if-swing-shift-lt512.false)

pub returns : goal.returns
returns c =
    let n = c.args.swing in
    let e : c.loop-shift.shift ≡ 54 = omega arith in
    record {
      small = omega arith;
      few = shr_lt {n = n} 9 54 (omega arith);
      fine = subst (λ (k : ℕ). 255 * 2 ^ k ≤ n + 255) e c.loop-shift.invariant.1;
    }
