-- `listing::put_listing` meets its contract.
use mathlib.Core.Path.{ap, ◌∙◌}
use Prim.Native.Nat.{ℕ}
use Rattle.column.specs.Columns.{natural, gathered}
use Rattle.column.proofs.Gathered.{after}
use Rattle.listing.specs.Listing.{listing_of, room}
use Rattle.listing.proofs.put_listing.Goals as goal

pub returns : goal.returns
unfolding listing_of
returns c =
    after _ _ _ _
    (after _ _ _ _ c.put_lines.ensures (c.put_number.ensures ∙ ap (λ (n : ℕ). gathered room c.put_lines.new.text (natural 20 n)) c.duration_ns.ensures))
    c.put.ensures
