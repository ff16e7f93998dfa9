-- `sheet_text::lines::put_voltages` meets its contract: a line for each voltage.
use mathlib.Core.Path.{ap, ◌∙◌}
use native.Mathlib.Omega.{arith}
use lib.IntN.{ℤ}
use Rattle.numbers.proofs.Lin.{field_back}
use Rattle.column.specs.Columns.{gathered}
use Rattle.column.proofs.Gathered.{after}
use Rattle.sheet_text.specs.Text.{vsh1_name, vsh2_name, vsl_name, vcom_name, voltage_line, voltage_lines, text_bytes}
use Rattle.sheet_text.proofs.lines.put_voltages.Goals as goal

pub returns : goal.returns
unfolding voltage_lines
returns c =
    let h = c.args.sheet in
    after text_bytes _ _ _
    (after text_bytes _ _ _
    (after text_bytes _ _ _
    (c.put_voltage.ensures ∙ ap (λ (z : ℤ). gathered text_bytes c.args.text.now (voltage_line vsh1_name z)) (field_back h.vsh1 (omega arith)))
    (c.put_voltage-2.ensures ∙ ap (λ (z : ℤ). gathered text_bytes c.put_voltage.new.text (voltage_line vsh2_name z)) (field_back h.vsh2 (omega arith))))
    (c.put_voltage-3.ensures ∙ ap (λ (z : ℤ). gathered text_bytes c.put_voltage-2.new.text (voltage_line vsl_name z)) (field_back h.vsl (omega arith))))
    (c.put_voltage-4.ensures ∙ ap (λ (z : ℤ). gathered text_bytes c.put_voltage-3.new.text (voltage_line vcom_name z)) (field_back h.vcom (omega arith)))
