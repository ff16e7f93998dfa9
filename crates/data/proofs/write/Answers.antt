-- `data::write` meets its contract: what is no byte of RAM data finds the planes as they were.
use Rattle.data.proofs.Taken.{still_not}
use Rattle.data.proofs.write.Goals as goal

pub write_other-requires : goal.write_other-requires
write_other-requires c =
    let s = c.args in
    let k = c.stream in
    record { current_value = still_not s.byte s.state s.black_white.now s.red.now k.result k.new.black_white k.new.red k.ensures.done_value k.ensures.by_index c.in-None.is }
