-- `combined` meets its contract.
use mathlib.Core.Path.{sym, ap, subst, ◌∙◌}
use lib.IntN.{ℤ, pos}
use lib.Signed.{◌≤ℤ◌}
use Rattle.numbers.proofs.Lin.{back}
use Rattle.waveform.specs.declared.Drive.TheVariants.{Lut}
use Rattle.waveform.specs.Walks.{whole_transfer}
use Rattle.waveform_laws.proofs.Decoded.{walkable}
use Rattle.combine.specs.Settled.{settled}
use Rattle.bench.proofs.Passed.{walk_lasts, walk_lut, combine_walks, combine_some}
use Rattle.bench.proofs.display.combined.Goals as goal

pub transfer_whole-requires : goal.transfer_whole-requires
transfer_whole-requires c =
    let a = c.args in
    let walks = combine_walks a.periods.now a.lut a.swing c.requires in (
      walkable a.setting.now a.periods.now (Lut a.lut) (walk_lasts a.periods.now a.lut walks) (walk_lut a.periods.now a.lut walks),
      subst (λ (z : ℤ). pos 1 ≤ℤ z) (sym (back c.ranges.swing)) (combine_some a.periods.now a.lut a.swing c.requires),
    )

pub returns : goal.returns
unfolding whole_transfer
returns c =
    let s = c in
    let a = s.args in
    c.transfer_whole.ensures.value
    ∙ ap (λ (z : ℤ). settled (whole_transfer a.setting.now a.periods.now (Lut a.lut) z a.positive_drives_black)) (back s.ranges.swing)
