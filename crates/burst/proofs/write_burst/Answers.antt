-- `burst::write_burst` meets its contract.
use mathlib.Core.Path.{refl}
use borrow.Author.Tests.{eq-eqb, ne_eqb}
use Rattle.device.proofs.ByKind.{streaming, not_streaming}
use Rattle.burst.proofs.Cases.{bursts_idle, bursts_ignoring, bursts_not, bursts_black_white, bursts_red}
use Rattle.burst.proofs.write_burst.Goals as goal

pub returns-then-is_some : goal.returns-then-is_some
returns-then-is_some c =
    let s = c.args in
    let tells = not_streaming c.in-Active.active.kind _ _ c.bounds.ensures c.is_some.ensures c.if-is_some.true in
    bursts_not s.events.kinds.now s.events.times.now s.events.values.now _ s.from s.state s.black_white.now s.red.now s.state.bus.current _ _ c.in-Active.is tells refl

pub returns-then-active-eq36 : goal.returns-then-active-eq36
returns-then-active-eq36 c =
    let s = c.args in
    let tells = streaming c.in-Active.active.kind _ _ c.bounds.ensures c.is_some.ensures c.if-is_some.false in
    bursts_black_white s.events.kinds.now s.events.times.now s.events.values.now _ s.from s.state s.black_white.now s.red.now s.state.bus.current _ _ c.in-Active.is tells _ refl (eq-eqb _ _ c.if-active-eq36.true) c.run_into.ensures

pub returns-else-active-eq36 : goal.returns-else-active-eq36
returns-else-active-eq36 c =
    let s = c.args in
    let tells = streaming c.in-Active.active.kind _ _ c.bounds.ensures c.is_some.ensures c.if-is_some.false in
    bursts_red s.events.kinds.now s.events.times.now s.events.values.now _ s.from s.state s.black_white.now s.red.now s.state.bus.current _ _ c.in-Active.is tells _ refl (ne_eqb _ _ c.if-active-eq36.false) c.run_into-in-Active.ensures

pub returns-in-Idle : goal.returns-in-Idle
returns-in-Idle c =
    let s = c.args in
    bursts_idle s.events.kinds.now s.events.times.now s.events.values.now _ s.from s.state s.black_white.now s.red.now s.state.bus.current c.in-Idle.is

pub returns-in-Ignoring : goal.returns-in-Ignoring
returns-in-Ignoring c =
    let s = c.args in
    bursts_ignoring s.events.kinds.now s.events.times.now s.events.values.now _ s.from s.state s.black_white.now s.red.now s.state.bus.current c.in-Ignoring.is
