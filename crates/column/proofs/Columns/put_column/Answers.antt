-- `column::Columns::put_column` meets its contract: after i turns the column's first i bytes are put.
use Rattle.std.proofs.Common.{ℕ, [], ◌∷◌, ap, sym, ◌∙◌, arith, take_all}
use Rattle.column.specs.Columns.{column_of, gathered}
use Rattle.column.proofs.Gathered.{nothing, byte_more, wide, put_text}
use Rattle.column.proofs.Symbols.{column_length, column_at_is}
use Rattle.column.proofs.Columns.put_column.Goals as goal

pub loop-i-init : goal.loop-i-init
loop-i-init g c = nothing g.row.ROOM c.args.self.now

pub loop-i-preserved : goal.loop-i-preserved
loop-i-preserved g c =
    let s = c.args in
    let l = c.loop-i in
    byte_more g.row.ROOM c.args.self.now (column_of s.width s.negative s.n) l.i (omega (arith, column_length s.width s.negative s.n)) l.invariant
    (c.put.ensures
    ∙ ap (λ (b : ℕ). gathered g.row.ROOM l.self (b ∷ [])) (c.symbol.ensures ∙ sym (column_at_is s.width s.negative s.n l.i (omega arith))))

pub returns : goal.returns
returns g c =
    let s = c.args in
    c.loop-i.invariant
    ∙ ap (gathered g.row.ROOM s.self.now) (take_all c.loop-i.i (column_of s.width s.negative s.n) (omega (arith, column_length s.width s.negative s.n)))

pub returns-then-width-self : goal.returns-then-width-self
returns-then-width-self g c =
    let s = c.self in
    let a = c.args in
    let w = wide g.row.ROOM s.inside.bytes s.inside.len a.width s.told s.view_is s.invariant c.if-width-self.true in
    put_text g.row.ROOM s.inside.bytes s.inside.len a.width s.told s.view_is s.invariant c.if-width-self.true c.fill_column.new.out _
    (c.fill_column.ensures ∙ ap (λ (k : ℕ). column_of k a.negative a.n) w)
    (column_length a.width a.negative a.n)
