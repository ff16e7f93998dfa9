use mathlib.Core.Path.{◌≡◌}
use Prim.Native.Nat.{◌-◌, ◌≤◌}
use lib.ListN.{length}
use Rattle.counts.specs.Counts.{picture}
use Rattle.world.specs.World.{world}
use Rattle.traffic.specs.Traffic.{event_at, made, feeding}
use Rattle.traffic.proofs.feed.Given as goal

abbrev pub invariant-loop-i : goal.invariant-loop-i
invariant-loop-i l =
    (feeding (made l.otp (event_at l.kinds l.times l.values)) (l.count - l.i) l.i (world l.next l.states l.luts (picture l.pixels l.counts) l.black_white l.red l.gates l.log)
    ≡ feeding (made l.otp (event_at l.kinds l.times l.values)) l.count 0 (world l.initial.next l.initial.states l.initial.luts (picture l.initial.pixels l.initial.counts) l.initial.black_white l.initial.red l.gates l.initial.log))
    × ((length l.states ≡ length l.initial.states) × (length l.luts ≡ length l.initial.luts) × (length l.pixels ≡ length l.initial.pixels) × (length l.counts ≡ length l.initial.counts)
    × (length l.black_white ≡ length l.initial.black_white) × (length l.red ≡ length l.initial.red) × (length l.log ≡ length l.initial.log) × (l.i ≤ l.count))

abbrev pub decreases-loop-i : goal.decreases-loop-i
decreases-loop-i l = l.count - l.i
