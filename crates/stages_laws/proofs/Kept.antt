-- The stages of an activation change the journal and the log by reports alone, and the temperature to one of twelve bits alone: what both
-- keep, the stages keep. Assumes nothing.
use Rattle.std.specs.Prelude.{Option, Some, None}
use Prim.Native.Nat.{ℕ, ◌%◌}
use mathlib.Core.Bool.{Bool, true, false, ◌&&◌, not}
use mathlib.Core.List.{List}
use lib.Dec.{eqb}
use lib.ListN.{length}
use Rattle.numbers.specs.Choice.{pick}
use Rattle.config.specs.declared.Ssd1677Config.{Ssd1677Config}
use Rattle.config.specs.declared.DisplayMode.{DisplayMode}
use Rattle.diagnostic.specs.declared.DiagnosticKind.{DiagnosticKind}
use Rattle.diagnostic.specs.declared.DiagnosticKind.TheVariants.{WithoutClock, NoWaveform, NoExternalSensor}
use Rattle.diagnostic.specs.declared.Stage.TheVariants.{AnalogOn, TemperatureLoad, LutLoad}
use Rattle.diagnostic.specs.Log.{Entries, entries, reported}
use Rattle.otp.specs.Table.{entry_bytes}
use Rattle.stages.specs.declared.Control.{Control}
use Rattle.stages.specs.declared.Run.{Run}
use Rattle.stages.specs.Run.{Step, through, with_clock, with_analog, with_found, with_temperature, noted, waited}
use Rattle.stages.specs.Stages.{clock_on, analog_on, by_external, sensed, temperature_loaded, mode_of, entry_for, with_entry_for, lut_found, lut_loaded, loaded}

-- what holds of both arms holds of the choice
pub either : {A : Type 0} (P : A → Type 0) (b : Bool) (x y : A) → P x → P y → P (pick b x y)
either P true x y p q = p
either P false x y p q = q

module _ (Q : ℕ → Entries → Type 0)
    (reports : (t : ℕ) (e : Entries) (time : ℕ) (kind : DiagnosticKind) → Q t e → Q t (reported e time kind))
    (loads : (t register : ℕ) (e : Entries) → Q t e → Q (register % 4096) e) where
  -- of a step
  abbrev pub Holds : Step → Type 0
  Holds s = Q s.run.temperature (entries s.run.journal s.log)

  -- of a run with a log
  abbrev pub HoldsOf : List ℕ → Run → Type 0
  HoldsOf log r = Q r.temperature (entries r.journal log)

  pub noted_holds : (time : ℕ) (kind : DiagnosticKind) (s : Step) → Holds s → Holds (noted time kind s)
  unfolding noted
  noted_holds time kind s h = reports s.run.temperature (entries s.run.journal s.log) time kind h

  pub waited_holds : (ns : ℕ) (r : Run) (log : List ℕ) → HoldsOf log r → HoldsOf log (waited ns r)
  unfolding waited
  waited_holds ns r log h = h

  clock_on_holds : (wanted : Bool) (ns : ℕ) (r : Run) (log : List ℕ) → HoldsOf log r → HoldsOf log (clock_on wanted ns r)
  unfolding clock_on
  clock_on_holds wanted ns r log h =
      either (HoldsOf log) (wanted && not r.clock) (waited ns (with_clock true r)) r (waited_holds ns (with_clock true r) log h) h

  module _ (time : ℕ) where
    analog_on_holds : (wanted : Bool) (ns : ℕ) (s : Step) → Holds s → Holds (analog_on time wanted ns s)
    unfolding analog_on
    analog_on_holds wanted ns s h =
        let on = through (λ (r : Run). waited ns (with_analog true r)) s in
        let off = noted time (WithoutClock AnalogOn) s in
        either Holds (wanted && not s.run.analog) (pick s.run.clock on off) s
        (either Holds s.run.clock on off (waited_holds ns (with_analog true s.run) s.log h) (noted_holds time (WithoutClock AnalogOn) s h))
        h

    external_holds : (ns : ℕ) (external : Option ℕ) (s : Step) → Holds s → Holds (by_external time ns external s)
    external_holds ns (Some register) s h =
        waited_holds ns (with_temperature (register % 4096) s.run) s.log
        (loads s.run.temperature register (entries s.run.journal s.log) h)
    external_holds ns None s h =
        let t = noted time NoExternalSensor s in
        waited_holds ns t.run t.log (noted_holds time NoExternalSensor s h)

    sensed_holds : (sensor : ℕ) (config : Ssd1677Config) (external : Option ℕ) (s : Step) → Holds s → Holds (sensed time sensor config external s)
    unfolding sensed
    sensed_holds sensor config external s h =
        let inside = with_temperature (config.ambient % 4096) s.run in
        either Holds (eqb sensor 0x80)
        (through (λ (r : Run). waited config.timing.temperature_internal (with_temperature (config.ambient % 4096) r)) s)
        (by_external time config.timing.temperature_external external s)
        (waited_holds config.timing.temperature_internal inside s.log
        (loads s.run.temperature config.ambient (entries s.run.journal s.log) h))
        (external_holds config.timing.temperature_external external s h)

    temperature_holds : (wanted : Bool) (sensor : ℕ) (config : Ssd1677Config) (s : Step) → Holds s → Holds (temperature_loaded time wanted sensor config s)
    unfolding temperature_loaded
    temperature_holds wanted sensor config s h =
        let on = sensed time sensor config config.external_sensor s in
        let off = noted time (WithoutClock TemperatureLoad) s in
        either Holds wanted (pick s.run.clock on off) s
        (either Holds s.run.clock on off (sensed_holds sensor config config.external_sensor s h) (noted_holds time (WithoutClock TemperatureLoad) s h))
        h

    found_holds : (mode : DisplayMode) (otp : List ℕ) (s : Step) → Holds s → Holds (lut_found time mode otp s)
    unfolding lut_found
    found_holds mode otp s h =
        either Holds (eqb (length (entry_for mode otp s.run.temperature)) entry_bytes)
        (through (with_entry_for mode otp s.run.temperature) s)
        (noted time (NoWaveform mode s.run.temperature) (through (with_found false) s))
        h
        (noted_holds time (NoWaveform mode s.run.temperature) (through (with_found false) s) h)

    lut_holds : (wanted : Bool) (mode : DisplayMode) (otp : List ℕ) (ns : ℕ) (s : Step) → Holds s → Holds (lut_loaded time wanted mode otp ns s)
    unfolding lut_loaded
    lut_holds wanted mode otp ns s h =
        let t = lut_found time mode otp s in
        let on = through (waited ns) t in
        let off = noted time (WithoutClock LutLoad) s in
        either Holds wanted (pick s.run.clock on off) s
        (either Holds s.run.clock on off (waited_holds ns t.run t.log (found_holds mode otp s h)) (noted_holds time (WithoutClock LutLoad) s h))
        h

    -- the four in their order
    pub loaded_holds : (control : Control) (sensor : ℕ) (config : Ssd1677Config) (otp : List ℕ) (s : Step) → Holds s
        → Holds (loaded time control sensor config otp s)
    unfolding loaded
    loaded_holds control sensor config otp s h =
        let a = through (clock_on control.clock_on config.timing.clock_on) s in
        let b = analog_on time control.analog_on config.timing.analog_on a in
        let c = temperature_loaded time control.load_temperature sensor config b in
        lut_holds control.load_lut (mode_of control.mode_two) otp config.timing.lut_load c
        (temperature_holds control.load_temperature sensor config b
        (analog_on_holds control.analog_on config.timing.analog_on a
        (clock_on_holds control.clock_on config.timing.clock_on s.run s.log h)))
