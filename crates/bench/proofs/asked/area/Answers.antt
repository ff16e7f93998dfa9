-- `area` meets its contract: two numbers of 16 bits have a product of 32.
use native.Mathlib.Omega.{arith}
use native.Mathlib.Nat.{mul-le-mul}
use Prim.Native.Nat.{ℕ, ◌≤◌}
use mir.Val.{Fits}
use mir.Syntax.{w16}
use Rattle.bench.proofs.asked.area.Goals as goal

le : {n : ℕ} → Fits w16 n → n ≤ 65535
le h = omega arith

pub overflow_mul-result : goal.overflow_mul-result
overflow_mul-result c = omega (arith, mul-le-mul {n₂ = 65535} {m₂ = 65535} (le c.ranges.height) (le c.ranges.width))
