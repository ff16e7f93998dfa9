-- `panel_start::new` meets its contract. Assumes nothing.
use mathlib.Core.Path.{sym, ap, subst, ◌∙◌}
use lib.IntN.{ℤ, pos}
use lib.Signed.{◌≤ℤ◌}
use Rattle.numbers.proofs.Lin.{rd, field_back}
use Rattle.panel.specs.declared.Panel.{Panel}
use Rattle.panel.specs.Start.{panel_at_power_on}
use Rattle.panel_laws.proofs.Start.{some_swing, filled}
use Rattle.panel_start.proofs.new.Goals as goal

pub gray-gray-requires : goal.gray-gray-requires
unfolding panel_at_power_on
gray-gray-requires c =
    let made = c.at_power_on-panel in
    subst (λ (z : ℤ). pos 1 ≤ℤ z) (sym (field_back made.result.swing c.struct_told-2-1.given.0.1 ∙ ap (λ (p : Panel). p.swing) made.ensures))
    (some_swing _ c.requires.bound)

pub returns : goal.returns
returns c =
    let pixels = c in
    let counts = pixels in
    let luts = counts in
    let states = luts in
    let told = states in
    let gray = told in
    let made = gray in
    let p = made.at_power_on-panel.result in
    filled _ _ _ _ _ p (rd p.border) (rd p.swing) _ _ _ _ _
    made.at_power_on-panel.ensures
    (field_back p.border told.struct_told-3-1.given.1.0.1)
    (field_back p.swing told.struct_told-3-1.given.0.1)
    gray.gray-gray.ensures
    states.fill_states.ensures
    luts.fill.ensures
    pixels.fill-3.ensures
    counts.fill-2.ensures
