-- `traffic::stream` meets its contract.
use Prim.Native.Nat.{◌≤◌}
use native.Mathlib.Omega.{arith}
use Rattle.traffic.proofs.Burst.{burst_made, stays}
use Rattle.traffic.proofs.stream.Goals as goal

pub returns-then-is_ok : goal.returns-then-is_ok
returns-then-is_ok c =
    let s = c.args in
    let h : s.from ≤ s.events.count = omega (arith, c.requires) in
    let g = burst_made s.events.kinds.now s.events.times.now s.events.values.now s.events.count s.from h s.state s.black_white.now s.red.now s.lengths _ _ _ c.check.ensures c.is_ok.ensures.value c.if-is_ok.true c.write_burst.ensures in
    record { from_le_made = (g.from_here, g.to_count); ends_alike = g.alike }

pub returns-else-is_ok : goal.returns-else-is_ok
returns-else-is_ok c =
    let s = c.args in
    let h : s.from ≤ s.events.count = omega (arith, c.requires) in
    let g = stays s.events.kinds.now s.events.times.now s.events.values.now s.events.count s.from h s.state s.black_white.now s.red.now s.lengths in
    record { from_le_made = (g.from_here, g.to_count); ends_alike = g.alike }

pub returns-else-kind-eq-DATA : goal.returns-else-kind-eq-DATA
returns-else-kind-eq-DATA c =
    let s = c.args in
    let h : s.from ≤ s.events.count = omega (arith, c.requires) in
    let g = stays s.events.kinds.now s.events.times.now s.events.values.now s.events.count s.from h s.state s.black_white.now s.red.now s.lengths in
    record { from_le_made = (g.from_here, g.to_count); ends_alike = g.alike }
