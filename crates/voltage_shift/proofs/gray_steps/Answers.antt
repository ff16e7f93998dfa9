-- `voltage_shift::gray_steps` meets its contract.
use mathlib.Core.Bool.{true}
use mathlib.Core.Path.{◌≡◌, sym, ap, subst, ◌∙◌}
use Prim.Native.Nat.{ℕ, ◌*◌, ◌/◌, ◌^◌, ◌≤◌, ◌<◌}
use native.Mathlib.Omega.{arith}
use lib.IntN.{ℤ, pos}
use lib.Signed.{mag, lt_z, ◌≤ℤ◌}
use borrow.Author.Tests.{ltb-true, ltb-false}
use mir.Syntax.{w64}
use mir.Val.{to_z}
use Rattle.numbers.specs.Saturation.{largest}
use Rattle.numbers.proofs.Lin.{rd, whole, le_in, back, got}
use Rattle.glass.specs.Greys.{level_z, gray_z}
use Rattle.glass.proofs.Grey.{level_is}
use Rattle.voltage_shift.proofs.Steps.{steps_here, steps_next, steps_before}
use Rattle.voltage_shift.proofs.gray_steps.Goals as goal

-- a number below 2^63, cast to a signed one
signed : (n : ℕ) → n ≤ largest 63 → to_z w64 n ≡ pos n
signed n h = back {w = w64} {z = pos n} (record { sfits = omega arith })

some : (n : ℕ) → 1 ≤ n → n ≤ largest 63 → pos 1 ≤ℤ to_z w64 n
some n h k = subst (λ (z : ℤ). pos 1 ≤ℤ z) (sym (signed n k)) (le_in (pos 1) (pos n) (omega whole))

-- what the calls say of the nearest grey g and its level l
is : (n S : ℕ) {g : ℕ} → n ≤ largest 63 → S ≤ largest 63 → g ≡ gray_z (to_z w64 n) (to_z w64 S) → g ≡ gray_z (pos n) (pos S)
is n S h k e = e ∙ (λ i. gray_z (signed n h i) (signed S k i))

test : (n S g : ℕ) {l : ℤ} → n ≤ largest 63 → S ≤ largest 63 → mag l < 2 ^ 63 → l ≡ level_z g (to_z w64 S)
    → lt_z (rd l) (to_z w64 n) ≡ lt_z (pos (S * g / 255)) (pos n)
test n S g h k ok e = λ i. lt_z ((got ok e ∙ ap (level_z g) (signed S k) ∙ sym (level_is g S)) i) (signed n h i)

short : (n S g : ℕ) {l : ℤ} → n ≤ largest 63 → S ≤ largest 63 → mag l < 2 ^ 63 → l ≡ level_z g (to_z w64 S)
    → lt_z (rd l) (to_z w64 n) ≡ true → S * g / 255 < n
short n S g h k ok e t = ltb-true _ _ (sym (test n S g h k ok e) ∙ t)

pub gray-gray-requires : goal.gray-gray-requires
gray-gray-requires c = some c.args.swing (omega arith) (omega arith)

pub level-requires : goal.level-requires
level-requires c = some c.args.swing (omega arith) (omega arith)

pub overflow_add-result : goal.overflow_add-result
overflow_add-result c =
    let n = c.args.bound in
    let S = c.args.swing in
    let g = c.gray-gray.result in
    record {
      fits = omega (
        arith,
        steps_before S n g (omega arith) (omega arith) (is n S (omega arith) (omega arith) c.gray-gray.ensures)
            (short n S g (omega arith) (omega arith) c.level.type_inv c.level.ensures c.if-level-bound.true),
      );
    }

pub returns-then-level-bound : goal.returns-then-level-bound
returns-then-level-bound c =
    let n = c.args.bound in
    let S = c.args.swing in
    let g = c.gray-gray.result in
    steps_next S n g (omega arith) (omega arith) (is n S (omega arith) (omega arith) c.gray-gray.ensures)
    (short n S g (omega arith) (omega arith) c.level.type_inv c.level.ensures c.if-level-bound.true)

pub returns : goal.returns
returns c =
    let n = c.args.bound in
    let S = c.args.swing in
    let g = c.gray-gray.result in
    steps_here S n g (omega arith) (omega arith) (is n S (omega arith) (omega arith) c.gray-gray.ensures)
    (ltb-false _ _ (sym (test n S g (omega arith) (omega arith) c.level.type_inv c.level.ensures) ∙ c.if-level-bound.false))
