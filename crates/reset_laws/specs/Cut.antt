-- What the law of one cut speaks of: `set_reset` lets RES# fall while a refresh is driving, in any state that 13 lets pass (SCOPE, Time; #101).
use Rattle.std.specs.Prelude.{ℕ, ◌-◌, ◌*◌, ◌/◌, ◌≤◌, ◌<◌, max, ◌≡◌, true, pos, Some}
use Rattle.panel.specs.declared.Display.{Display}
use Rattle.panel.specs.Finish.{Ending}
use Rattle.device.specs.declared.Power.TheVariants.{InReset}
use Rattle.device.specs.declared.Ssd1677.{Ssd1677}
use Rattle.guard_state.specs.State.{state_fine}
use Rattle.clock.specs.Advance.{ending_of}

-- the cycles from the start of driving to a moment, in nanoseconds, rounded down
abbrev pub span_to : Ssd1677 → Display → ℕ → ℕ
span_to d display t = (t - display.started) * 1000000000 / d.config.frequency

-- the refresh up to there
abbrev pub cut_ending : Ssd1677 → Display → ℕ → Ending
cut_ending d display t = ending_of d display t (Some (span_to d display t))

-- a state of swing S handed to `set_reset` at a time: 13 lets it pass, RES# is high, a refresh drives at the moment of the call, the later of the
-- clock and the time, and the converted span is at most 2^64 − 2
pub record Cuttable (d : Ssd1677) (display : Display) (S time : ℕ) : Type 0 where
  pub fine : state_fine d ≡ true
  pub swing : d.panel.swing ≡ pos S
  pub high : d.bus.power ≡ InReset → ⊥
  pub runs : d.display ≡ Some display
  pub begun : display.started ≤ max d.now time
  pub before_its_end : max d.now time < display.ends
  pub short : span_to d display (max d.now time) ≤ 18446744073709551614
