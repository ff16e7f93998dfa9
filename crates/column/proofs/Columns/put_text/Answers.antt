-- `column::Columns::put_text` meets its contract: after i turns the first i bytes are put.
use Rattle.std.proofs.Common.{arith, length, refl}
use Rattle.column.proofs.Gathered.{nothing, byte_more, put_text}
use Rattle.column.proofs.Columns.put_text.Goals as goal

pub loop-byte-init : goal.loop-byte-init
loop-byte-init g c = nothing g.row.ROOM c.args.self.now

pub loop-byte-preserved : goal.loop-byte-preserved
loop-byte-preserved g c =
    let l = c.loop-byte in
    byte_more g.row.ROOM c.args.self.now c.args.text.now l.byte-index (omega arith) l.invariant c.put.ensures

pub returns-then-text-self : goal.returns-then-text-self
returns-then-text-self g c =
    let s = c.self in
    let t = c.args.text.now in
    put_text g.row.ROOM s.inside.bytes s.inside.len (length t) s.told s.view_is s.invariant c.if-text-self.true c.copy_from_slice.new.self t
    c.copy_from_slice.ensures.after refl
