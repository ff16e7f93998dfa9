-- `sheet_text::put` meets its contract.
use Rattle.std.specs.Prelude.{length}
use borrow.Author.Tests.{lt-ltb}
use mathlib.Core.Path.{ap, ◌∙◌}
use mathlib.Core.List.{List}
use Prim.Native.Nat.{ℕ}
use Rattle.column.specs.Columns.{in_front}
use Rattle.sheet_text.specs.Text.{text_bytes, put_in}
use Rattle.sheet_text.proofs.put.Goals as goal

pub returns-clause-text : goal.returns-clause-text
unfolding put_in
returns-clause-text c = c.write_to.ensures.text ∙ ap (λ (t : List ℕ). in_front text_bytes t c.args.out.now) c.text_of.ensures

pub returns-then-out-lt-TEXT_BYTES-clause-text : goal.returns-then-out-lt-TEXT_BYTES-clause-text
unfolding put_in
returns-then-out-lt-TEXT_BYTES-clause-text c = rw (lt-ltb (length c.args.out.now) text_bytes c.if-out-lt-TEXT_BYTES.true)
