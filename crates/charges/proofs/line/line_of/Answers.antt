-- `charges::line::line_of` meets its contract.
use mathlib.Core.Path.{sym, subst, ◌∙◌}
use mathlib.Core.List.{[], ◌++◌}
use native.Mathlib.Omega.{arith}
use Rattle.waveform.specs.declared.Drive.TheVariants.{Lut}
use Rattle.waveform.specs.Phases.{phases_of}
use Rattle.column.specs.Columns.{natural, line_end, gathered}
use Rattle.column.proofs.Gathered.{after, all_fits}
use Rattle.charges.specs.Charge.{drive_sum, BoundedWaveform}
use Rattle.charges.specs.Report.{sums_text, charge_line, charge_line_bytes}
use Rattle.charges.proofs.Bounds.{setting_bounded}
use Rattle.charges.proofs.Lines.{line_length}
use Rattle.charges.proofs.line.line_of.Goals as goal

pub put_sums-requires : goal.put_sums-requires
put_sums-requires c =
    subst BoundedWaveform (sym c.from_setting-waveform.ensures)
    (setting_bounded c.args.setting.now c.args.frame_period.now (λ i. omega (arith, c.fits-setting i)) c.requires)

pub returns : goal.returns
unfolding charge_line
returns c =
    let s = c.args in
    let all = after charge_line_bytes _ _ _ (after charge_line_bytes _ _ _ c.put_number.ensures c.put_sums.ensures) c.put.ensures in
    all
    ∙ (λ i. gathered charge_line_bytes (c.new-line.ensures i)
    (natural 3 s.entry ++ sums_text (λ lut. drive_sum (phases_of (c.from_setting-waveform.ensures i) (Lut lut))) ++ line_end))
    ∙ all_fits charge_line_bytes [] (charge_line s.frame_period.now s.setting.now s.entry) (omega (arith, line_length s.frame_period.now s.setting.now s.entry))
