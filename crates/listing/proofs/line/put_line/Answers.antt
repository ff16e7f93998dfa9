-- `listing::line::put_line` meets its contract.
use Rattle.listing.specs.Listing.{line_of}
use Rattle.column.proofs.Gathered.{after}
use Rattle.listing.proofs.line.put_line.Goals as goal

pub returns : goal.returns
unfolding line_of
returns c = after _ _ _ _ (after _ _ _ _ c.put_head.ensures c.put_drives.ensures) c.put.ensures
