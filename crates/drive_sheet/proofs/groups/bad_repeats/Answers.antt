-- `drive_sheet::groups::bad_repeats` meets its contract.
use mathlib.Core.Path.{refl}
use Rattle.drive_sheet.specs.Tests.{bad_repeats}
use Rattle.drive_sheet.proofs.groups.bad_repeats.Goals as goal

pub returns : goal.returns
unfolding bad_repeats
returns c = refl
