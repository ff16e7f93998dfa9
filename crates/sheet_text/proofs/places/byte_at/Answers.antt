-- `sheet_text::places::byte_at` meets its contract.
use mathlib.Core.Path.{sym}
use lib.ListN.{get_or-eq_default}
use Rattle.sheet_text.proofs.places.byte_at.Goals as goal

pub returns : goal.returns
returns c = sym (get_or-eq_default c.args.text.now 0 c.if-at-text.false)
