-- At 1,000,000,000 cycles a second a cycle is a nanosecond, and moments, spans and BUSY are what they were before there was a frequency
-- (#101). Assumes nothing.
use Rattle.std.specs.Prelude.{Some}
use mathlib.Core.Path.{◌≡◌}
use Prim.Native.Nat.{ℕ, ◌+◌, ◌-◌, ◌≤◌, min}
use native.Mathlib.Omega.{arith}
use lib.Dec.{ltb}
use Rattle.numbers.specs.Choice.{pick}
use Rattle.numbers.specs.Saturation.{largest}
use Rattle.frequency_laws.proofs.Rounded.{cycles_is}
use Rattle.frequency_laws.proofs.Again.{nanos_same}
use Rattle.device.specs.declared.Bus.{Bus}
use Rattle.device.specs.Parts.{with_until}
use Rattle.moment.specs.Moments.{after_ns, ns_between, busy_for}

pub after_same : (moment ns : ℕ) → after_ns 1000000000 moment ns ≡ min (moment + ns) (largest 64)
unfolding after_ns
after_same moment ns = omega (arith, cycles_is 1000000000 ns)

pub between_same : (from to : ℕ) → to ≤ largest 64 → ns_between 1000000000 from to ≡ to - from
unfolding ns_between
between_same from to h = nanos_same (to - from) (omega arith)

pub busy_same : (bus : Bus) (moment ns : ℕ)
    → busy_for bus 1000000000 moment ns ≡ pick (ltb 0 ns) (with_until bus (Some (min (moment + ns) (largest 64)))) bus
unfolding busy_for
busy_same bus moment ns = rw (after_same moment ns)
