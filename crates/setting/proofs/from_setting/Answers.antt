-- `setting::from_setting` meets its contract. Assumes nothing.
use mathlib.Core.List.{[], ◌∷◌}
use Rattle.numbers.specs.Lists.{tab}
use Rattle.waveform.specs.Setting.{waveform_of}
use Rattle.setting.proofs.from_setting.Goals as goal

pub returns : goal.returns
unfolding waveform_of tab
returns c =
    let c8 = c.before in
    let c7 = c8.before in
    let c6 = c7.before in
    let c5 = c6.before in
    let c4 = c5.before in
    let c3 = c4.before in
    let c2 = c3.before in
    let c1 = c2.before in
    let c0 = c1.before in
    λ i. record {
      groups = c0.group_of.ensures i ∷ c1.group_of-2.ensures i ∷ c2.group_of-3.ensures i ∷ c3.group_of-4.ensures i ∷ c4.group_of-5.ensures i ∷ c5.group_of-6.ensures i ∷ c6.group_of-7.ensures i ∷ c7.group_of-8.ensures i ∷ c8.group_of-9.ensures i ∷ c.group_of-10.ensures i ∷ [];
      levels = c0.from_setting-levels.ensures i;
    }
