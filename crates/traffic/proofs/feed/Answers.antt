-- `traffic::feed` meets its contract: after some turns, the events that are left give from what is there what all of them give from the start.
use mathlib.Core.Path.{◌≡◌, sym, ap, ◌∙◌}
use mathlib.Core.Bool.{not}
use Prim.Native.Nat.{ℕ, ◌-◌, min}
use native.Mathlib.Omega.{arith}
use lib.ListN.{length}
use borrow.Author.Rules.{rules}
use Rattle.counts.specs.Counts.{picture}
use Rattle.world.specs.World.{world}
use Rattle.traffic.specs.Traffic.{event_at, made, feeding}
use Rattle.traffic.proofs.Feeding.{fed_all, ended_on, ended_there}
use Rattle.traffic.proofs.feed.Goals as goal

pub loop-i-init : goal.loop-i-init
loop-i-init c =
    let step = made c.args.otp.now (event_at c.args.kinds.now c.args.times.now c.args.values.now) in
    let given = world c.args.state c.args.states.now c.args.luts.now (picture c.args.pixels.now c.args.counts.now) c.args.black_white.now c.args.red.now c.args.gates.now c.args.log.now in
    let n = c.min-count.result in
    let all : n - 0 ≡ n = omega arith in
    (ap (λ (k : ℕ). feeding step k 0 given) all, search rules)

pub invariant_of-events : goal.invariant_of-events
invariant_of-events c =
    let one = c.min-count.ensures in
    let two = c.min.ensures in
    record { with_kinds = omega (arith, one, two); with_times = omega (arith, one, two); with_values = omega (arith, one, two) }

pub shape_of-states-then-is_err : goal.shape_of-states-then-is_err
shape_of-states-then-is_err c = c.turn-fed.auto.states ∙ c.loop-i.invariant.1.0

pub shape_of-luts-then-is_err : goal.shape_of-luts-then-is_err
shape_of-luts-then-is_err c = c.turn-fed.auto.luts ∙ c.loop-i.invariant.1.1

pub shape_of-pixels-then-is_err : goal.shape_of-pixels-then-is_err
shape_of-pixels-then-is_err c = c.turn-fed.auto.pixels ∙ c.loop-i.invariant.1.2

pub shape_of-counts-then-is_err : goal.shape_of-counts-then-is_err
shape_of-counts-then-is_err c = c.turn-fed.auto.counts ∙ c.loop-i.invariant.1.3

pub shape_of-black_white-then-is_err : goal.shape_of-black_white-then-is_err
shape_of-black_white-then-is_err c = c.turn-fed.auto.black_white ∙ c.loop-i.invariant.1.4

pub shape_of-red-then-is_err : goal.shape_of-red-then-is_err
shape_of-red-then-is_err c = c.turn-fed.auto.red ∙ c.loop-i.invariant.1.5

pub shape_of-log-then-is_err : goal.shape_of-log-then-is_err
shape_of-log-then-is_err c = c.turn-fed.auto.log ∙ c.loop-i.invariant.1.6

pub returns-then-is_err : goal.returns-then-is_err
returns-then-is_err c =
    let step = made c.args.otp.now (event_at c.args.kinds.now c.args.times.now c.args.values.now) in
    let given = world c.args.state c.args.states.now c.args.luts.now (picture c.args.pixels.now c.args.counts.now) c.args.black_white.now c.args.red.now c.args.gates.now c.args.log.now in
    let s = c in
    let n = c.min-count.result in
    let t = c.turn-fed in
    let f = t.result in
    sym (ended_there step n f.answer f.made _ (c.is_err.ensures.negation ∙ ap not c.if-is_err.true))
    ∙ t.ensures.log_after
    ∙ c.loop-i.invariant.0
    ∙ ap (λ (k : ℕ). feeding step k 0 given) (c.min-count.ensures ∙ ap (min (length s.args.kinds.now)) c.min.ensures)

pub loop-i-smaller : goal.loop-i-smaller
loop-i-smaller c =
    let h = c.turn-fed.ensures.from_lt_made (c.is_err.ensures.negation ∙ ap not c.if-is_err.false) in
    omega (arith, h, c.loop-i-test.true)

pub loop-i-preserved : goal.loop-i-preserved
loop-i-preserved c =
    let step = made c.args.otp.now (event_at c.args.kinds.now c.args.times.now c.args.values.now) in
    let s = c in
    let n = c.min-count.result in
    let t = c.turn-fed in
    let f = t.result in
    let a = c.is_err.ensures.negation ∙ ap not c.if-is_err.false in (
      sym (ended_on step n f.answer f.made _ a) ∙ t.ensures.log_after ∙ c.loop-i.invariant.0,
      (
        t.auto.states ∙ c.loop-i.invariant.1.0,
        t.auto.luts ∙ c.loop-i.invariant.1.1,
        t.auto.pixels ∙ c.loop-i.invariant.1.2,
        t.auto.counts ∙ c.loop-i.invariant.1.3,
        t.auto.black_white ∙ c.loop-i.invariant.1.4,
        t.auto.red ∙ c.loop-i.invariant.1.5,
        t.auto.log ∙ c.loop-i.invariant.1.6,
        (t.ensures.from_lt_made a).1,
      ),
    )

pub shape_of-states : goal.shape_of-states
shape_of-states c = c.loop-i.invariant.1.0

pub shape_of-luts : goal.shape_of-luts
shape_of-luts c = c.loop-i.invariant.1.1

pub shape_of-pixels : goal.shape_of-pixels
shape_of-pixels c = c.loop-i.invariant.1.2

pub shape_of-counts : goal.shape_of-counts
shape_of-counts c = c.loop-i.invariant.1.3

pub shape_of-black_white : goal.shape_of-black_white
shape_of-black_white c = c.loop-i.invariant.1.4

pub shape_of-red : goal.shape_of-red
shape_of-red c = c.loop-i.invariant.1.5

pub shape_of-log : goal.shape_of-log
shape_of-log c = c.loop-i.invariant.1.6

pub returns : goal.returns
returns c =
    let step = made c.args.otp.now (event_at c.args.kinds.now c.args.times.now c.args.values.now) in
    let given = world c.args.state c.args.states.now c.args.luts.now (picture c.args.pixels.now c.args.counts.now) c.args.black_white.now c.args.red.now c.args.gates.now c.args.log.now in
    let s = c in
    let w = world c.loop-i.next c.loop-i.states c.loop-i.luts (picture c.loop-i.pixels c.loop-i.counts) c.loop-i.black_white c.loop-i.red s.args.gates.now c.loop-i.log in
    let n = c.min-count.result in
    let none : n - c.loop-i.i ≡ 0 = omega (arith, c.loop-i-test.false) in
    fed_all step n c.loop-i.i (feeding step n 0 given) w none c.loop-i.invariant.0
    ∙ ap (λ (k : ℕ). feeding step k 0 given) (c.min-count.ensures ∙ ap (min (length s.args.kinds.now)) c.min.ensures)
