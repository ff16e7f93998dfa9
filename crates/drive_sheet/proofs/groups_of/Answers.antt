-- `drive_sheet::groups_of` meets its contract.
use mathlib.Core.List.{[], ◌∷◌}
use Rattle.numbers.specs.Lists.{tab}
use Rattle.drive_sheet.proofs.groups_of.Goals as goal

pub returns : goal.returns
unfolding tab
returns c =
    λ i.
    c.group_codes.ensures i ∷ c.group_codes-2.ensures i ∷ c.group_codes-3.ensures i ∷ c.group_codes-4.ensures i ∷ c.group_codes-5.ensures i
    ∷ c.group_codes-6.ensures i ∷ c.group_codes-7.ensures i ∷ c.group_codes-8.ensures i ∷ c.group_codes-9.ensures i ∷ c.group_codes-10.ensures i ∷ []
