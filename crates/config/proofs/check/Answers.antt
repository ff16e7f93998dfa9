-- `config::check` meets its contract: the tests of each call, one list after the other.
use Rattle.std.proofs.lemmas.Result.{err_from_is_err_and}
use mathlib.Core.List.{List, [], ◌∷◌}
use Rattle.config.specs.Answer.{Test}
use Rattle.config.specs.Tests.{geometry_tests, swing_test, periods_test, frequency_test}
use Rattle.config.specs.declared.Ssd1677Config.{Ssd1677Config}
use Rattle.config.proofs.Answers.{stops_at, goes_past}
use Rattle.config.proofs.check.Goals as goal

abbrev panel : Ssd1677Config → List Test
panel g = geometry_tests g.panel

abbrev swing : Ssd1677Config → List Test
swing g = swing_test g.optics ∷ []

abbrev periods : Ssd1677Config → List Test
periods g = periods_test g.timing.frame_period ∷ []

abbrev clock : Ssd1677Config → List Test
clock g = frequency_test g.frequency ∷ []

abbrev after_swing : Ssd1677Config → List Test
after_swing g = periods_test g.timing.frame_period ∷ clock g

abbrev rest : Ssd1677Config → List Test
rest g = swing_test g.optics ∷ after_swing g

pub returns-in_err-check_geometry : goal.returns-in_err-check_geometry
returns-in_err-check_geometry c =
    let g = c.args.config in
    let p = err_from_is_err_and c.from_residual.result c.from_residual.ensures.1 in
    rw (p.1, p.2) (stops_at _ _ (panel g) (rest g) _ c.in_err-check_geometry.ensures)

pub returns-in_err-check_swing : goal.returns-in_err-check_swing
returns-in_err-check_swing c =
    let g = c.args.config in
    let p = err_from_is_err_and c.from_residual-in_err-check_swing.result c.from_residual-in_err-check_swing.ensures.1 in
    rw (p.1, p.2)
    (goes_past _ (panel g) (rest g) _ c.in_ok-check_geometry.ensures
    (stops_at _ _ (swing g) (after_swing g) _ c.in_err-check_swing.ensures))

pub returns-in_err-check_periods : goal.returns-in_err-check_periods
returns-in_err-check_periods c =
    let g = c.args.config in
    let p = err_from_is_err_and c.from_residual-in_err-check_periods.result c.from_residual-in_err-check_periods.ensures.1 in
    rw (p.1, p.2)
    (goes_past _ (panel g) (rest g) _ c.in_ok-check_geometry.ensures
    (goes_past _ (swing g) (after_swing g) _ c.in_ok-check_swing.ensures
    (stops_at _ _ (periods g) (clock g) _ c.in_err-check_periods.ensures)))

pub returns : goal.returns
returns c =
    let g = c.args.config in
    goes_past _ (panel g) (rest g) _ c.in_ok-check_geometry.ensures
    (goes_past _ (swing g) (after_swing g) _ c.in_ok-check_swing.ensures
    (goes_past _ (periods g) (clock g) _ c.in_ok-check_periods.ensures c.check_frequency.ensures))
