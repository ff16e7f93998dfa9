-- `burst::put_back` meets its contract.
use Rattle.burst.proofs.Cases.{puts_back}
use Rattle.burst.proofs.put_back.Goals as goal

pub returns : goal.returns
returns c =
    let s = c.args in
    puts_back s.state _ _ s.active s.reached _ c.set_current-bus.ensures c.set_now-moved.ensures c.set_pointed.ensures
