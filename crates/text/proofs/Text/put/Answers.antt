-- `text::Text::put` meets its contract.
use mathlib.Core.Path.{sym, ◌∙◌}
use Rattle.text.proofs.Laws.{put_more, put_none}
use Rattle.text.proofs.Text.put.Goals as goal

pub returns-then-self-lt-ROOM : goal.returns-then-self-lt-ROOM
returns-then-self-lt-ROOM c =
    let s = c.self in
    put_more s.inside.bytes s.inside.len c.args.byte s.told s.view_is s.invariant c.if-self-lt-ROOM.true

pub returns-else-self-lt-ROOM : goal.returns-else-self-lt-ROOM
returns-else-self-lt-ROOM c =
    let s = c.self in
    sym s.view_is ∙ put_none s.inside.bytes s.inside.len c.args.byte s.told s.view_is s.invariant c.if-self-lt-ROOM.false
