-- What each return of the stages hands over, over plain variables. Assumes nothing.
use Rattle.std.specs.Prelude.{Option, Some, None}
use Prim.Native.Nat.{ℕ, ◌%◌, ◌+◌, min}
use mathlib.Core.Path.{◌≡◌}
use mathlib.Core.Bool.{false}
use mathlib.Core.List.{List}
use lib.ListN.{length}
use borrow.Author.Tests.{eq-eqb, ne_eqb}
use Rattle.numbers.specs.Saturation.{largest}
use Rattle.config.specs.declared.Ssd1677Config.{Ssd1677Config}
use Rattle.config.specs.declared.DisplayMode.{DisplayMode}
use Rattle.diagnostic.specs.declared.DiagnosticKind.{DiagnosticKind}
use Rattle.diagnostic.specs.declared.DiagnosticKind.TheVariants.{NoWaveform, NoExternalSensor}
use Rattle.diagnostic.specs.Log.{Entries, entries, reported}
use Rattle.stages.specs.declared.Control.{Control}
use Rattle.stages.specs.declared.Run.{Run}
use Rattle.stages.specs.Run.{Step, step, through, step_with_entries, with_ns, with_lut, with_found, with_temperature, with_waveform, noted, waited}
use Rattle.stages.specs.Stages.{clock_on, analog_on, by_external, temperature_loaded, mode_of, entry_for, place_for, setting_in, lut_found, lut_loaded, loaded}

pub notes : (time : ℕ) (kind : DiagnosticKind) (s : Step) (e : Entries) → e ≡ reported (entries s.run.journal s.log) time kind
    → step_with_entries s e ≡ noted time kind s
unfolding noted
notes time kind s e h = rw h

pub waits : (ns n : ℕ) (r : Run) → n ≡ min (r.ns + ns) (largest 64) → with_ns n r ≡ waited ns r
unfolding waited
waits ns n r h = rw h

module _ (time ns : ℕ) (x : Option ℕ) (s z : Step) where
  pub reads : (t : ℕ) → x ≡ Some t → z ≡ through (λ (r : Run). waited ns (with_temperature (t % 4096) r)) s → z ≡ by_external time ns x s
  reads t e f = rw e f

  pub reads_none : x ≡ None → z ≡ through (waited ns) (noted time NoExternalSensor s) → z ≡ by_external time ns x s
  reads_none e f = rw e f

module _ (time : ℕ) (mode : DisplayMode) (otp : List ℕ) (s : Step) (e : List ℕ) (is : e ≡ entry_for mode otp s.run.temperature) where
  pub finds : (l : List ℕ) (k : ℕ) → length e ≡ 118 → l ≡ setting_in e → k ≡ place_for mode otp s.run.temperature
      → through (λ (r : Run). with_waveform k (with_lut l r)) s ≡ lut_found time mode otp s
  unfolding lut_found
  finds l k h f g = rw (← is, eq-eqb _ _ h, f, g)

  pub finds_none : (z : Step) → (length e ≡ 118 → ⊥) → z ≡ noted time (NoWaveform mode s.run.temperature) (through (with_found false) s)
      → z ≡ lut_found time mode otp s
  unfolding lut_found
  finds_none z h g = rw (← is, ne_eqb _ _ h) g

pub loads : (time : ℕ) (control : Control) (sensor : ℕ) (config : Ssd1677Config) (otp : List ℕ) (s : Step) (m : DisplayMode) (a : Run) (b c d : Step)
    → m ≡ mode_of control.mode_two → a ≡ clock_on control.clock_on config.timing.clock_on s.run
    → b ≡ analog_on time control.analog_on config.timing.analog_on (step a s.log)
    → c ≡ temperature_loaded time control.load_temperature sensor config b
    → d ≡ lut_loaded time control.load_lut m otp config.timing.lut_load c
    → d ≡ loaded time control sensor config otp s
unfolding loaded
loads time control sensor config otp s m a b c d e₁ e₂ e₃ e₄ e₅ = rw (e₅, e₄, e₃, e₂, e₁)
