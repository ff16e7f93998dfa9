-- `drive_sheet::supplies::millivolts_of` meets its contract.
use mathlib.Core.Path.{sym, ap, ◌∙◌}
use Rattle.drive_sheet.specs.declared.Supply.{Supply}
use Rattle.drive_sheet.specs.Supplies.{voltage_of}
use Rattle.drive_sheet.proofs.supplies.millivolts_of.Goals as goal

pub returns-in-Vsh1 : goal.returns-in-Vsh1
returns-in-Vsh1 c = c.source_millivolts.ensures ∙ ap (λ (s : Supply). voltage_of s c.args.code) (sym c.in-Vsh1.is)

pub returns-in-Vsh2 : goal.returns-in-Vsh2
returns-in-Vsh2 c = c.source_millivolts-in-Vsh2.ensures ∙ ap (λ (s : Supply). voltage_of s c.args.code) (sym c.in-Vsh2.is)

pub returns-in-Vsl : goal.returns-in-Vsl
returns-in-Vsl c = c.vsl_millivolts.ensures ∙ ap (λ (s : Supply). voltage_of s c.args.code) (sym c.in-Vsl.is)

pub returns-in-Vcom : goal.returns-in-Vcom
returns-in-Vcom c = c.vcom_millivolts.ensures ∙ ap (λ (s : Supply). voltage_of s c.args.code) (sym c.in-Vcom.is)
