-- `sheet_text::lines::put_gate` meets its contract.
use mathlib.Core.Path.{ap, ◌∙◌}
use Prim.Native.Nat.{ℕ}
use Rattle.column.specs.Columns.{natural, gathered}
use Rattle.column.proofs.Gathered.{after}
use Rattle.sheet_text.specs.Text.{gate_line, text_bytes}
use Rattle.sheet_text.proofs.lines.put_gate.Goals as goal

pub returns : goal.returns
unfolding gate_line
returns c =
    after text_bytes _ _ _
    (after text_bytes _ _ _ c.put_text.ensures
    (c.put_number.ensures ∙ ap (λ (n : ℕ). gathered text_bytes c.put_text.new.self (natural 7 n)) c.from.ensures))
    c.put.ensures
