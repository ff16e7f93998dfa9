-- `deep_sleep::deep_sleep` meets its contract.
use Rattle.acts.proofs.Cases.{stays_awake, loses, keeps}
use Rattle.world.specs.World.{with_ram}
use Rattle.deep_sleep.proofs.deep_sleep.Goals as goal

pub returns-then-low-eq0 : goal.returns-then-low-eq0
returns-then-low-eq0 c =
    let s = c.args in
    stays_awake s.byte (with_ram s.state s.black_white.now s.red.now s.log.now) _ _ c.check-noted.ensures c.mode-low.ensures c.if-low-eq0.true

pub returns-then-low-eq3 : goal.returns-then-low-eq3
returns-then-low-eq3 c =
    let s = c.args in
    loses s.byte (with_ram s.state s.black_white.now s.red.now s.log.now) _ _ c.check-noted.ensures c.mode-low.ensures _ _ _ c.if-low-eq3.true c.fill.ensures c.fill-then-low-eq3.ensures c.fall_asleep.ensures

pub returns : goal.returns
returns c =
    let s = c.args in
    keeps s.byte (with_ram s.state s.black_white.now s.red.now s.log.now) _ _ c.check-noted.ensures c.mode-low.ensures _ c.if-low-eq0.false c.if-low-eq3.false c.fall_asleep-2.ensures
