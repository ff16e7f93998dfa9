-- What can be asked of a state, and what a host changes in it beside the events (mod.rs, `is_busy` to `dropped_diagnostics`). A state
-- that 13 refuses is told nothing: here no level, no deadline and a count of 0 stand for that, and of its parts the parts as given.
use Rattle.std.specs.Prelude.{ℕ, Bool, false, Option, None, Result, Ok, Err}
use Rattle.glass.specs.declared.PanelImage.{PanelImage}
use Rattle.config.specs.declared.Ssd1677Config.{Ssd1677Config}
use Rattle.diagnostic.specs.declared.Journal.{Journal}
use Rattle.device.specs.declared.Ssd1677.{Ssd1677}
use Rattle.device.specs.Parts.{with_config, with_journal}
use Rattle.busy.specs.Busy.{busy_at, pin_at, deadline_of}
use Rattle.guard.specs.declared.Refused.{Refused}
use Rattle.query.specs.declared.Taken.{Taken}
use Rattle.query.specs.Outcome.{Outcome, unless, state_guarded}

-- is_busy, at the time as given
unfoldable pub busy_asked : Ssd1677 → ℕ → Outcome Bool
busy_asked d time = unless (state_guarded d) false (busy_at d.bus time)

-- busy_pin, at the time as given
unfoldable pub pin_asked : Ssd1677 → ℕ → Outcome Bool
pin_asked d time = unless (state_guarded d) false (pin_at d time)

-- next_deadline
unfoldable pub deadline_asked : Ssd1677 → Outcome (Option ℕ)
deadline_asked d = unless (state_guarded d) None (deadline_of d)

-- config
unfoldable pub config_asked : Ssd1677 → Outcome Ssd1677Config
config_asked d = unless (state_guarded d) d.config d.config

-- panel_image: its header
unfoldable pub image_asked : Ssd1677 → Outcome PanelImage
image_asked d = unless (state_guarded d) d.panel.image d.panel.image

-- dropped_diagnostics
unfoldable pub dropped_asked : Ssd1677 → Outcome ℕ
dropped_asked d = unless (state_guarded d) 0 d.journal.dropped

-- another register for the internal sensor, from the next temperature load on
abbrev pub with_ambient : Ssd1677Config → ℕ → Ssd1677Config
with_ambient c register =
    record {
      panel = c.panel;
      optics = c.optics;
      timing = c.timing;
      busy_active_high = c.busy_active_high;
      ambient = register;
      external_sensor = c.external_sensor;
      vci_millivolts = c.vci_millivolts;
      user_id = c.user_id;
      frequency = c.frequency;
    }

-- set_ambient
unfoldable pub ambient_set : Ssd1677 → ℕ → Outcome Ssd1677
ambient_set d register = unless (state_guarded d) d (with_config d (with_ambient d.config register))

-- the state with the number of records that were waiting
pub record WithCount : Type 0 where
  pub device : Ssd1677
  pub count : ℕ

-- the two as one
abbrev pub with_count : Ssd1677 → ℕ → WithCount
with_count d n = record { device = d; count = n }

-- what a call that takes records answers: a refused one takes none
abbrev pub taken_in : Result Taken Refused → Taken
taken_in (Ok taken) = taken
taken_in (Err refused) = record { state = refused.state; count = 0 }

-- no record waits any more; the dropped count and the log's bytes stay
abbrev pub journal_emptied : Journal → Journal
journal_emptied j = record { count = 0; dropped = j.dropped; reserved_reported = j.reserved_reported }

-- take_diagnostics
unfoldable pub diagnostics_taken : Ssd1677 → Outcome WithCount
diagnostics_taken d = unless (state_guarded d) (with_count d 0) (with_count (with_journal d (journal_emptied d.journal)) d.journal.count)
