-- `sheet_text::places::groups_in` meets its contract.
use mathlib.Core.List.{[], ◌∷◌}
use Rattle.numbers.specs.Lists.{tab}
use Rattle.sheet_text.proofs.places.groups_in.Goals as goal

pub returns : goal.returns
unfolding tab
returns c =
    let c8 = c in
    let c7 = c8 in
    let c6 = c7 in
    let c5 = c6 in
    let c4 = c5 in
    let c3 = c4 in
    let c2 = c3 in
    let c1 = c2 in
    let c0 = c1 in
    λ i. c0.group_in.ensures i ∷ c1.group_in-2.ensures i ∷ c2.group_in-3.ensures i ∷ c3.group_in-4.ensures i ∷ c4.group_in-5.ensures i ∷ c5.group_in-6.ensures i ∷ c6.group_in-7.ensures i ∷ c7.group_in-8.ensures i ∷ c8.group_in-9.ensures i ∷ c.group_in-10.ensures i ∷ []
