-- `walk::phases::pixel_millivolts` meets its contract: what two listed levels are apart by fits. Assumes nothing.
use mathlib.Core.Path.{◌≡◌, sym, subst, ◌∙◌}
use lib.IntN.{ℤ, ◌-ℤ◌}
use mir.Syntax.{w64}
use mir.Val.{SFits}
use Rattle.numbers.proofs.Lin.{whole, back, got, sub_out, fits_is}
use Rattle.waveform.specs.Voltages.{Listable}
use Rattle.waveform_laws.proofs.Range.{source_listable, vcom_listable}
use Rattle.walk.proofs.phases.pixel_millivolts.Goals as goal

apart_fits : {s v x y : ℤ} → s ≡ x → v ≡ y → Listable x → Listable y → SFits w64 (s -ℤ v)
apart_fits {s} {v} e f h k =
    let a = subst Listable (sym e) h in
    let b = subst Listable (sym f) k in
    fits_is (omega (whole, sub_out s v))

pub overflow_sub-result : goal.overflow_sub-result
overflow_sub-result c =
    apart_fits (got c.source.type_inv c.source.ensures) (got c.vcom_swing.type_inv c.vcom_swing.ensures)
    (source_listable _ _ c.requires) (vcom_listable _ _ c.requires)

pub returns : goal.returns
returns c =
    let source = got c.source.type_inv c.source.ensures in
    let vcom = got c.vcom_swing.type_inv c.vcom_swing.ensures in
    back (apart_fits source vcom (source_listable _ _ c.requires) (vcom_listable _ _ c.requires)) ∙ (λ i. source i -ℤ vcom i)
