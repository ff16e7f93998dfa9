-- `listing::list` meets its contract.
use Rattle.std.specs.Prelude.{length}
use borrow.Author.Tests.{lt-ltb}
use mathlib.Core.Path.{ap, ◌∙◌}
use mathlib.Core.List.{List}
use Prim.Native.Nat.{ℕ}
use Rattle.column.specs.Columns.{in_front}
use Rattle.listing.specs.Listing.{listed, room}
use Rattle.listing.proofs.list.Goals as goal

pub returns-clause-text : goal.returns-clause-text
unfolding listed
returns-clause-text c = c.write_to.ensures.text ∙ ap (λ (t : List ℕ). in_front room t c.args.out.now) c.text_of.ensures

pub returns-then-out-lt-ROOM-clause-text : goal.returns-then-out-lt-ROOM-clause-text
unfolding listed
returns-then-out-lt-ROOM-clause-text c = rw (lt-ltb (length c.args.out.now) room c.if-out-lt-ROOM.true)
