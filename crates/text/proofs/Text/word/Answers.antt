-- `text::Text::word` meets its contract: as much of it as there is room for is copied.
use Prim.Native.Nat.{◌+◌, ◌-◌}
use Rattle.text.proofs.Laws.{word_copied}
use Rattle.text.proofs.Text.word.Goals as goal

pub returns : goal.returns
returns c =
    let s = c.self in
    word_copied s.inside.bytes s.inside.len s.told s.view_is s.invariant c.args.word.now c.copy_from_slice.new.self c.min-fits.result
    (s.inside.len + c.min-fits.result - s.inside.len) c.min-fits.ensures c.copy_from_slice.ensures.after
