-- `column::Columns::put` meets its contract.
use Rattle.std.proofs.Common.{sym, ◌∙◌}
use Rattle.column.proofs.Gathered.{put_more, put_none}
use Rattle.column.proofs.Columns.put.Goals as goal

pub returns-then-self : goal.returns-then-self
returns-then-self g c =
    let s = c.self in
    put_more g.row.ROOM s.inside.bytes s.inside.len c.args.byte s.told s.view_is s.invariant c.if-self.true

pub returns-else-self : goal.returns-else-self
returns-else-self g c =
    let s = c.self in
    sym s.view_is ∙ put_none g.row.ROOM s.inside.bytes s.inside.len c.args.byte s.told s.view_is s.invariant c.if-self.false
