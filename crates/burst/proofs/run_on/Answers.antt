-- `burst::run_on` meets its contract. Assumes nothing.
use mathlib.Core.Path.{◌≡◌, refl}
use Prim.Native.Nat.{◌-◌}
use native.Mathlib.Omega.{arith}
use Rattle.burst.proofs.Running.{more, ends, all}
use Rattle.burst.proofs.run_on.Goals as goal

pub returns-in_default : goal.returns-in_default
returns-in_default c =
    let e = c.args.events in
    let m = c.loop-i in
    ends e.kinds.now e.times.now e.values.now c.args.course e.count m.i m.next m.plane _ m.invariant _ c.loop-i-test.true c.in_default.ensures refl

pub loop-i-preserved : goal.loop-i-preserved
loop-i-preserved c =
    let e = c.args.events in
    let m = c.loop-i in
    more e.kinds.now e.times.now e.values.now c.args.course e.count m.i m.next m.plane _ m.invariant _ c.loop-i-test.true c.in-Some.ensures refl

pub returns : goal.returns
returns c =
    let e = c.args.events in
    let m = c.loop-i in
    let none : e.count - m.i ≡ 0 = omega (arith, c.loop-i-test.false) in
    all e.kinds.now e.times.now e.values.now c.args.course e.count m.i m.next m.plane _ m.invariant none
