-- `proved_transfer` meets its contract.
use mathlib.Core.Path.{sym, refl, ap, ◌∙◌}
use mathlib.Core.List.{[], ◌∷◌}
use Rattle.numbers.proofs.Lin.{back, field_back}
use Rattle.waveform.specs.declared.Drive.TheVariants.{Lut}
use Rattle.panel.specs.Finish.{setting_transfer}
use Rattle.bench.specs.Made.{numbers_of}
use Rattle.bench.proofs.proved_transfer.Goals as goal

pub transfer-t-requires : goal.transfer-t-requires
transfer-t-requires c = sym c.can_walk.ensures ∙ c.if-can_walk.true

pub returns-then-can_walk : goal.returns-then-can_walk
returns-then-can_walk c =
    let call = c in
    let test = call in
    let s = test in
    let a = s.args in
    let fits = c.struct_told-1.given in record { value = sym test.if-can_walk.true ∙ test.can_walk.ensures; out_after = (λ i. field_back call.transfer-t.result.add fits.0.1 i ∷ field_back call.transfer-t.result.lo fits.1.0.1 i ∷ field_back call.transfer-t.result.hi fits.1.1.0.1 i ∷ []) ∙ ap numbers_of (call.transfer-t.ensures ∙ (λ i. setting_transfer a.setting.now a.periods.now (Lut a.lut) (back s.ranges.swing i) a.positive_drives_black (call.until_of-until.ensures i))) }

pub returns : goal.returns
returns c = record { value = sym c.if-can_walk.false ∙ c.can_walk.ensures; out_after = refl }
