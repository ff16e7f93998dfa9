-- `data::up_to` meets its contract.
use mathlib.Core.Path.{refl}
use Rattle.data.proofs.Cases.{goes_on, takes, takes_not}
use Rattle.world.specs.World.{with_ram}
use Rattle.data.proofs.up_to.Goals as goal

pub returns-then-index-most : goal.returns-then-index-most
returns-then-index-most c =
    let s = c.args in
    takes s.active (with_ram s.state s.black_white.now s.red.now s.log.now) s.most s.byte _ _ c.if-index-most.true c.parameter-taken.ensures
    (goes_on c.parameter-taken.result _ _ _ _ refl c.count-next.ensures c.go_on.ensures)

pub returns : goal.returns
returns c =
    let s = c.args in
    takes_not s.active (with_ram s.state s.black_white.now s.red.now s.log.now) s.most s.byte _ c.if-index-most.false
    (c.take_surplus.ensures s.black_white.now s.red.now)
