-- `sheet_text::lines::text_of` meets its contract.
use mathlib.Core.Path.{ap, ◌∙◌}
use mathlib.Core.List.{List, []}
use Prim.Native.Nat.{ℕ}
use native.Mathlib.Omega.{arith}
use Rattle.column.specs.Columns.{gathered}
use Rattle.column.proofs.Gathered.{after, all_fits}
use Rattle.sheet_text.specs.Text.{sheet_text, text_bytes}
use Rattle.sheet_text.proofs.Lengths.{sheet_length}
use Rattle.sheet_text.proofs.lines.text_of.Goals as goal

pub returns : goal.returns
unfolding sheet_text
returns c =
    after text_bytes _ _ _ (after text_bytes _ _ _ c.put_groups.ensures c.put_gate.ensures) c.put_voltages.ensures
    ∙ ap (λ (g : List ℕ). gathered text_bytes g (sheet_text c.args.sheet)) c.new-text.ensures
    ∙ all_fits text_bytes [] (sheet_text c.args.sheet) (omega (arith, sheet_length c.args.sheet))
