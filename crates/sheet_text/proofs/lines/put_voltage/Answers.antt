-- `sheet_text::lines::put_voltage` meets its contract.
use mathlib.Core.Path.{ap, ◌∙◌}
use lib.IntN.{ℤ}
use Rattle.numbers.proofs.Lin.{back}
use Rattle.column.specs.Columns.{whole, gathered}
use Rattle.column.proofs.Gathered.{after}
use Rattle.sheet_text.specs.Text.{voltage_line, text_bytes}
use Rattle.sheet_text.proofs.lines.put_voltage.Goals as goal

pub returns : goal.returns
unfolding voltage_line
returns c =
    after text_bytes _ _ _
    (after text_bytes _ _ _ c.put_text.ensures
    (c.put_whole.ensures ∙ ap (λ (z : ℤ). gathered text_bytes c.put_text.new.self (whole 7 z)) (back c.ranges.millivolts)))
    c.put.ensures
