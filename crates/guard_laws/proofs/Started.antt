-- A configuration and a table that start does not refuse give a panel, periods, a frequency and a table that no later call refuses. Assumes nothing.
use Prim.Native.Nat.{ℕ, ◌≤◌}
use mathlib.Core.Path.{◌≡◌, refl}
use mathlib.Core.Bool.{true, false}
use mathlib.Core.List.{List, [], ◌∷◌, ◌++◌}
use native.Mathlib.Omega.{arith}
use borrow.Author.Tests.{eqb-false}
use Rattle.numbers.specs.Choice.{pick}
use Rattle.config.specs.declared.Ssd1677Config.{Ssd1677Config}
use Rattle.config.specs.Answer.{refused, is_accepted, Test, first_of}
use Rattle.config.specs.Tests.{geometry_tests, swing_test, periods_test, frequency_test}
use Rattle.otp.specs.Table.{bad_table, table_test, voltages_test, start_tests}
use Rattle.guard_state.specs.State.{panel_fine, periods_fine, frequency_fine}
use Rattle.guard_laws.proofs.Accepted.{none_refuses}

-- both of two lists accept
pub both : (a b : List Test) → is_accepted (first_of (a ++ b)) ≡ true → (is_accepted (first_of a) ≡ true) × (is_accepted (first_of b) ≡ true)
unfolding first_of
both [] b e = (refl, e)
both (t ∷ a) b e = by (none_refuses t (a ++ b) e) (both a b)
  where
    by : (t.refuses ≡ false) × (is_accepted (first_of (a ++ b)) ≡ true)
        → (is_accepted (first_of (a ++ b)) ≡ true → (is_accepted (first_of a) ≡ true) × (is_accepted (first_of b) ≡ true))
        → (is_accepted (pick t.refuses (refused t.number t.value) (first_of a)) ≡ true) × (is_accepted (first_of b) ≡ true)
    by p more = let q = more p.1 in (rw p.0 q.0, q.1)

module _ (c : Ssd1677Config) (otp : List ℕ) (accepts : is_accepted (first_of (start_tests c otp)) ≡ true) where
  abbrev table : List Test
  table = table_test otp ∷ voltages_test otp ∷ []

  abbrev after-five : List Test
  after-five = frequency_test c.frequency ∷ table

  abbrev after-four : List Test
  after-four = periods_test c.timing.frame_period ∷ after-five

  abbrev rest : List Test
  rest = swing_test c.optics ∷ after-four

  after_panel : (is_accepted (first_of (geometry_tests c.panel)) ≡ true) × (is_accepted (first_of rest) ≡ true)
  after_panel = both (geometry_tests c.panel) rest accepts

  after_swing : ((swing_test c.optics).refuses ≡ false) × (is_accepted (first_of after-four) ≡ true)
  after_swing = none_refuses (swing_test c.optics) after-four after_panel.1

  after_periods : ((periods_test c.timing.frame_period).refuses ≡ false) × (is_accepted (first_of after-five) ≡ true)
  after_periods = none_refuses (periods_test c.timing.frame_period) after-five after_swing.1

  after_frequency : ((frequency_test c.frequency).refuses ≡ false) × (is_accepted (first_of table) ≡ true)
  after_frequency = none_refuses (frequency_test c.frequency) table after_periods.1

  pub started_panel : panel_fine c.panel ≡ true
  unfolding panel_fine
  started_panel = after_panel.0

  pub started_swing : 1 ≤ c.optics.full_swing
  started_swing = let apart = eqb-false c.optics.full_swing 0 after_swing.0 in omega arith

  pub started_periods : periods_fine c.timing.frame_period ≡ true
  unfolding periods_fine
  started_periods = rw after_periods.0

  pub started_frequency : frequency_fine c.frequency ≡ true
  started_frequency = rw after_frequency.0

  pub started_table : bad_table otp ≡ false
  started_table = (none_refuses (table_test otp) (voltages_test otp ∷ []) after_frequency.1).0
