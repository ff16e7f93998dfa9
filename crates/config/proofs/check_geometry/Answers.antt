-- `config::check_geometry` meets its contract: each branch is the test that refuses.
use mathlib.Core.Path.{refl}
use mathlib.Core.List.{[], ◌∷◌}
use Rattle.config.specs.Answer.{refused_by, answer_of}
use Rattle.config.specs.Tests.{empty_panel, panel_outside_ram, odd_rows_with_gd}
use Rattle.config.proofs.Answers.{refuses, passes, none_left}
use Rattle.config.proofs.check_geometry.Goals as goal

pub returns-then-panel : goal.returns-then-panel
unfolding answer_of refused_by
returns-then-panel c =
    let p = c.args.panel in
    refuses (empty_panel p) (panel_outside_ram p ∷ odd_rows_with_gd p ∷ []) _ c.if-panel.true refl

pub returns-then-sources-panel : goal.returns-then-sources-panel
unfolding answer_of refused_by
returns-then-sources-panel c =
    let p = c.args.panel in
    passes (empty_panel p) (panel_outside_ram p ∷ odd_rows_with_gd p ∷ []) _ c.if-panel.false
    (refuses (panel_outside_ram p) (odd_rows_with_gd p ∷ []) _ c.if-sources-panel.true refl)

pub returns-then-native-panel : goal.returns-then-native-panel
unfolding answer_of refused_by
returns-then-native-panel c =
    let p = c.args.panel in
    passes (empty_panel p) (panel_outside_ram p ∷ odd_rows_with_gd p ∷ []) _ c.if-panel.false
    (passes (panel_outside_ram p) (odd_rows_with_gd p ∷ []) _ c.if-sources-panel.false
    (refuses (odd_rows_with_gd p) [] _ c.if-native-panel.true refl))

pub returns : goal.returns
unfolding answer_of refused_by
returns c =
    let p = c.args.panel in
    passes (empty_panel p) (panel_outside_ram p ∷ odd_rows_with_gd p ∷ []) _ c.if-panel.false
    (passes (panel_outside_ram p) (odd_rows_with_gd p ∷ []) _ c.if-sources-panel.false
    (passes (odd_rows_with_gd p) [] _ c.if-native-panel.false (none_left _ refl)))
