-- `traffic::one` meets its contract: no event is left, or the next one is made, accepted or refused.
use mathlib.Core.Path.{refl}
use native.Mathlib.Omega.{arith}
use Rattle.std.specs.Prelude.{Ok}
use Rattle.counts.specs.Counts.{picture}
use Rattle.world.specs.World.{world}
use Rattle.traffic.specs.Traffic.{event_at, made}
use Rattle.traffic.proofs.Feeding.{never, made_one, ended_on, one_made, none_made}
use Rattle.traffic.proofs.one.Goals as goal

pub returns-then-events-at : goal.returns-then-events-at
returns-then-events-at c =
    let s = c.args in
    record {
      made_value = λ h. omega (arith, c.requires, c.if-events-at.true);
      log_after = ended_on (made s.otp.now (event_at s.events.kinds.now s.events.times.now s.events.values.now)) s.events.count (Ok tt) s.at (world s.state s.states.now s.luts.now (picture s.pixels.now s.counts.now) s.black_white.now s.red.now s.gates.now s.log.now) refl;
    }

pub returns-in-Ok : goal.returns-in-Ok
returns-in-Ok c =
    let s = c.args in
    record {
      made_value = λ h. omega (arith, c.if-events-at.false);
      log_after =
          one_made (made s.otp.now (event_at s.events.kinds.now s.events.times.now s.events.values.now)) s.events.count s.at (world s.state s.states.now s.luts.now (picture s.pixels.now s.counts.now) s.black_white.now s.red.now s.gates.now s.log.now) c.if-events-at.false
          (made_one s.otp.now (event_at s.events.kinds.now s.events.times.now s.events.values.now) s.at (world s.state s.states.now s.luts.now (picture s.pixels.now s.counts.now) s.black_white.now s.red.now s.gates.now s.log.now) c.in-Ok.ensures c.event_of-event.ensures);
    }

pub returns-in-Err : goal.returns-in-Err
returns-in-Err c =
    let s = c.args in
    record {
      made_value = λ h. absurd (never h);
      log_after =
          none_made (made s.otp.now (event_at s.events.kinds.now s.events.times.now s.events.values.now)) s.events.count s.at (world s.state s.states.now s.luts.now (picture s.pixels.now s.counts.now) s.black_white.now s.red.now s.gates.now s.log.now) _ c.if-events-at.false
          (made_one s.otp.now (event_at s.events.kinds.now s.events.times.now s.events.values.now) s.at (world s.state s.states.now s.luts.now (picture s.pixels.now s.counts.now) s.black_white.now s.red.now s.gates.now s.log.now) c.in-Err.ensures c.event_of-event.ensures);
    }
