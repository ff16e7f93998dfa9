-- `listing::line::put_head` meets its contract: five columns, one after the other.
use mathlib.Core.Path.{ap, ◌∙◌}
use Prim.Native.Nat.{ℕ}
use Rattle.column.specs.Columns.{natural, gathered}
use Rattle.listing.specs.Listing.{head_of, room}
use Rattle.column.proofs.Gathered.{after}
use Rattle.listing.proofs.line.put_head.Goals as goal

pub returns : goal.returns
unfolding head_of
returns c =
    after _ _ _ _
    (after _ _ _ _
    (after _ _ _ _ (after _ _ _ _ c.put_number.ensures c.put_number-2.ensures)
    (c.put_number-3.ensures ∙ ap (λ (n : ℕ). gathered room c.put_number-2.new.self (natural 4 n)) c.from.ensures))
    (c.put_number-4.ensures ∙ ap (λ (n : ℕ). gathered room c.put_number-3.new.self (natural 4 n)) c.from-2.ensures))
    c.put_number-5.ensures
