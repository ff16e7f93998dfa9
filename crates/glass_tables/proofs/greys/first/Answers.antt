-- `glass_tables::greys::first` meets its contract: a state that a step begins with fits 63 bits. Assumes nothing.
use mathlib.Core.Path.{◌≡◌, ap, ◌∙◌}
use Prim.Native.Nat.{◌*◌, ◌^◌, ◌<◌, ◌%◌}
use native.Mathlib.Omega.{arith}
use native.Mathlib.Nat.{mul-le-mul}
use lib.Pow.{pow_mono, shl_exact}
use lib.IntN.{pos}
use Rattle.numbers.proofs.Lin.{back}
use Rattle.glass.specs.Greys.{gray_z}
use Rattle.glass_tables.proofs.greys.first.Goals.{Start}
use Rattle.glass_tables.proofs.greys.first.Goals as goal

-- the shift loses nothing
exact : (c : Start) → (c.args.step * 2 ^ c.args.shift) % 2 ^ 64 ≡ c.args.step * 2 ^ c.args.shift
exact c = shl_exact 9 c.args.shift 64 (omega arith) (omega arith)

begins : (c : Start) → c.args.step * 2 ^ c.args.shift < 9223372036854775808
begins c = omega (arith, mul-le-mul {n₁ = c.args.step} {m₁ = 2 ^ c.args.shift} {n₂ = 511} {m₂ = 18014398509481984} (omega arith) (pow_mono {i = c.args.shift} {j = 54} (omega arith)))

pub overflow_cast-step : goal.overflow_cast-step
overflow_cast-step c = record { sfits = omega (arith, exact c, begins c) }

pub returns : goal.returns
returns c =
    let s = c in
    c.gray.ensures ∙ (λ i. gray_z ((back (overflow_cast-step c.before) ∙ ap pos (exact c.before)) i) (back s.ranges.swing i))
