-- `numbers::clamp_i64` meets its contract: each test of the code is the test of the definition, read back.
use Rattle.numbers.specs.Saturation.{clamp_z}
use Rattle.numbers.proofs.Lin.{back}
use Rattle.numbers.proofs.clamp_i64.Goals as goal

pub returns-then-x-lo : goal.returns-then-x-lo
unfolding clamp_z
returns-then-x-lo c =
    let s = c.before in
    simp (back s.ranges.lo, simp (back s.ranges.x, back s.ranges.lo) at c.if-x-lo.true)

pub returns-then-hi-x : goal.returns-then-hi-x
unfolding clamp_z
returns-then-hi-x c =
    let s = c.before.before in
    simp (back s.ranges.hi, simp (back s.ranges.x, back s.ranges.lo) at c.if-x-lo.false, simp (back s.ranges.x, back s.ranges.hi) at c.if-hi-x.true)

pub returns-else-hi-x : goal.returns-else-hi-x
unfolding clamp_z
returns-else-hi-x c =
    let s = c.before.before in
    let fx = s.ranges.x in
    let fl = s.ranges.lo in
    let fh = s.ranges.hi in
    let e = simp back at c.if-x-lo.false in
    let f = simp back at c.if-hi-x.false in
    simp (back, e, f)
