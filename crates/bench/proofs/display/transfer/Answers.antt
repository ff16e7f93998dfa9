-- `transfer` meets its contract.
use mathlib.Core.Path.{ap, ◌∙◌}
use lib.IntN.{ℤ}
use Rattle.numbers.proofs.Lin.{back}
use Rattle.waveform.specs.declared.Drive.TheVariants.{Lut}
use Rattle.waveform_laws.proofs.Decoded.{decoded_walkable}
use Rattle.panel.specs.Finish.{setting_transfer}
use Rattle.bench.proofs.Passed.{walk_lasts, walk_lut}
use Rattle.bench.proofs.Decoded.{decoded_is}
use Rattle.bench.proofs.display.transfer.Goals as goal

pub transfer-requires : goal.transfer-requires
transfer-requires c =
    let s = c in
    let a = s.args in
    decoded_walkable a.setting.now a.periods.now (Lut a.lut) c.from_setting-decoded.ensures (walk_lasts a.periods.now a.lut s.requires) (walk_lut a.periods.now a.lut s.requires)

pub returns : goal.returns
returns c =
    let s = c in
    let a = s.args in
    decoded_is a.setting.now a.periods.now (Lut a.lut) c.from_setting-decoded.ensures _ a.positive_drives_black a.until c.transfer.ensures
    ∙ ap (λ (z : ℤ). setting_transfer a.setting.now a.periods.now (Lut a.lut) z a.positive_drives_black a.until) (back s.ranges.swing)
