-- `drive_sheet::groups::bad_codes` meets its contract.
use mathlib.Core.Path.{ap}
use mathlib.Core.Bool.{Bool, ◌||◌}
use lib.Dec.{ltb}
use Rattle.drive_sheet.specs.Tests.{bad_codes}
use Rattle.drive_sheet.proofs.groups.bad_codes.Goals as goal

pub returns : goal.returns
unfolding bad_codes
returns c =
    ap (λ (high : Bool). high || ltb 15 c.args.group.frame_rate) c.any_high_code.ensures
