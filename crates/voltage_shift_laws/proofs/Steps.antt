-- States no more than n apart show greys no more than n's steps of grey apart. Assumes nothing.
use mathlib.Core.Path.{◌≡◌}
use Prim.Native.Nat.{ℕ, ◌+◌, ◌-◌, ◌*◌, ◌/◌, ◌≤◌, ◌<◌}
use native.Mathlib.Omega.{arith}
use native.Mathlib.Nat.{add-mul, mul_comm, div-add-mod, mod-lt, div-lt_iff_lt-mul}
use lib.IntN.{pos}
use Rattle.glass.specs.Greys.{gray_z}
use Rattle.voltage_shift.specs.Shift.{gray_steps}
use Rattle.voltage_shift.proofs.Steps.{gray_is}
use Rattle.voltage_shift_laws.proofs.Apart.{Near}

-- as many steps of grey are as much or more
steps_enough : (S n : ℕ) → 1 ≤ S → 255 * n ≤ gray_steps S n * S
unfolding gray_steps
steps_enough S n some =
    let d = div-add-mod (255 * n + (S - 1)) S in
    let m = mod-lt (255 * n + (S - 1)) {m = S} (omega arith) in
    omega (arith, mul_comm S ((255 * n + (S - 1)) / S))

above : (S x y n : ℕ) → 1 ≤ S → x ≤ y + n → (510 * x + S) / (2 * S) ≤ (510 * y + S) / (2 * S) + gray_steps S n
above S x y n some h =
    let q = (510 * y + S) / (2 * S) in
    let k = gray_steps S n in
    let e = steps_enough S n some in
    let l : 510 * y + S < (q + 1) * (2 * S) = (div-lt_iff_lt-mul {k = 2 * S} {x = 510 * y + S} {y = q + 1} (omega arith)).0 (omega arith) in
    let a = add-mul (q + 1) k (2 * S) in
    let b : k * (2 * S) ≡ 2 * (k * S) = omega (arith, mul_comm k (2 * S), mul_comm k S) in
    let r : (510 * x + S) / (2 * S) < q + 1 + k = (div-lt_iff_lt-mul {k = 2 * S} {x = 510 * x + S} {y = q + 1 + k} (omega arith)).1 (omega arith) in
    omega arith

pub grays_near : (S x y n : ℕ) → 1 ≤ S → x ≤ S → y ≤ S → Near x y n → Near (gray_z (pos x) (pos S)) (gray_z (pos y) (pos S)) (gray_steps S n)
grays_near S x y n some hx hy h =
    rw (gray_is S x some hx, gray_is S y some hy) (record { above = above S x y n some h.above; below = above S y x n some h.below })
