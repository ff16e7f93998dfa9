-- Tests of a configuration that need no table, 1 to 5 and 14, and the test of a lent buffer, 11 (SCOPE, Refusals; config.rs, `validate`).
use Rattle.std.specs.Prelude.{not, ◌&&◌, ◌||◌, List, [], ◌∷◌, ◌++◌, ℕ, ◌+◌, ◌%◌, eqb, ltb, get_or}
use Rattle.glass.specs.declared.Optics.{Optics}
use Rattle.config.specs.declared.PanelGeometry.{PanelGeometry}
use Rattle.config.specs.declared.Ssd1677Config.{Ssd1677Config}
use Rattle.config.specs.Lowest.{lowest}
use Rattle.config.specs.Answer.{Test}

-- sources of the controller, the width of each RAM plane in pixels (datasheet §1)
abbrev pub ram_sources : ℕ
ram_sources = 960

-- gates of the controller, the height of each RAM plane in rows (datasheet §1)
abbrev pub ram_gates : ℕ
ram_gates = 680

-- 1: width or height 0
abbrev pub empty_panel : PanelGeometry → Test
empty_panel p = record { number = 1; value = 0; refuses = eqb p.width 0 || eqb p.height 0 }

-- 2: first source + width above 960, or height above 680
abbrev pub panel_outside_ram : PanelGeometry → Test
panel_outside_ram p = record { number = 2; value = 0; refuses = ltb ram_sources (p.first_source + p.width) || ltb ram_gates p.height }

-- 3: native gd with odd height
abbrev pub odd_rows_with_gd : PanelGeometry → Test
odd_rows_with_gd p = record { number = 3; value = 0; refuses = p.native_scan.gd && eqb (p.height % 2) 1 }

-- the tests of a panel
abbrev pub geometry_tests : PanelGeometry → List Test
geometry_tests p = empty_panel p ∷ panel_outside_ram p ∷ odd_rows_with_gd p ∷ []

-- 4: full swing 0
abbrev pub swing_test : Optics → Test
swing_test o = record { number = 4; value = 0; refuses = eqb o.full_swing 0 }

-- the lowest code whose frame period is 0, or 16
abbrev pub zero_period : List ℕ → ℕ
zero_period periods = lowest (λ code. eqb (get_or periods code 0) 0) 16

-- 5: a frame period 0, with the lowest code
abbrev pub periods_test : List ℕ → Test
periods_test periods = record { number = 5; value = zero_period periods; refuses = ltb (zero_period periods) 16 }

-- 14: frequency 0 (#101)
abbrev pub frequency_test : ℕ → Test
frequency_test frequency = record { number = 14; value = 0; refuses = eqb frequency 0 }

-- 1, 2, 3, 4, 5, 14
abbrev pub config_tests : Ssd1677Config → List Test
config_tests c =
    geometry_tests c.panel ++ swing_test c.optics ∷ periods_test c.timing.frame_period ∷ frequency_test c.frequency ∷ []

-- 11: a lent buffer's length is not the one asked
abbrev pub lent_test : ℕ → ℕ → Test
lent_test lent asked = record { number = 11; value = 0; refuses = not (eqb lent asked) }
