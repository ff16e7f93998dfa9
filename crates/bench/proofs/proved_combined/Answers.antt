-- `proved_combined` meets its contract.
use mathlib.Core.Path.{sym, refl, ap, ◌∙◌}
use mathlib.Core.List.{[], ◌∷◌}
use lib.IntN.{ℤ}
use Rattle.numbers.proofs.Lin.{back, field_back}
use Rattle.waveform.specs.declared.Drive.TheVariants.{Lut}
use Rattle.waveform.specs.Walks.{whole_transfer}
use Rattle.combine.specs.Settled.{settled}
use Rattle.bench.specs.Asked.{combinable}
use Rattle.bench.specs.Made.{numbers_of}
use Rattle.bench.proofs.proved_combined.Goals as goal

pub combined-whole-requires : goal.combined-whole-requires
combined-whole-requires c = sym c.can_combine.ensures ∙ c.if-can_combine.true

pub returns-then-can_combine : goal.returns-then-can_combine
returns-then-can_combine c =
    let call = c in
    let test = call in
    let s = test in
    let a = s.args in
    let fits = c.struct_told-1.given in
    let swing = back s.ranges.swing in record { value = sym test.if-can_combine.true ∙ test.can_combine.ensures ∙ ap (λ (z : ℤ). combinable a.periods.now a.lut z) swing; out_after = (λ i. field_back call.combined-whole.result.add fits.0.1 i ∷ field_back call.combined-whole.result.lo fits.1.0.1 i ∷ field_back call.combined-whole.result.hi fits.1.1.0.1 i ∷ []) ∙ ap numbers_of (call.combined-whole.ensures ∙ (λ i. settled (whole_transfer a.setting.now a.periods.now (Lut a.lut) (swing i) a.positive_drives_black))) }

pub returns : goal.returns
returns c =
    let s = c in
    let a = s.args in record { value = sym c.if-can_combine.false ∙ c.can_combine.ensures ∙ ap (λ (z : ℤ). combinable a.periods.now a.lut z) (back s.ranges.swing); out_after = refl }
