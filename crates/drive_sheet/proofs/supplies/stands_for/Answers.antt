-- `drive_sheet::supplies::stands_for` meets its contract.
use mathlib.Core.Path.{◌∙◌}
use Rattle.numbers.proofs.Lin.{back}
use Rattle.drive_sheet.specs.Supplies.{is_listed_as}
use Rattle.drive_sheet.proofs.supplies.stands_for.Goals as goal

pub returns : goal.returns
returns c =
    c.is_listed_as.ensures ∙ (λ i. is_listed_as (c.millivolts_of.ensures i) (back c.ranges.millivolts i))
